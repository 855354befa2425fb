-- Of a history: its ids, keys and values are valid, and its numbers fit their bits.
use Rattle.std.proofs.Common.{◌≡◌, ℕ, zero, suc, ◌+◌, ◌*◌, ◌≤◌, ◌<◌, ◌^◌, Bool, true, ◌&&◌, ◌||◌, ◌==◌, not, List, [], ◌∷◌, length, find, Option, Some, None}
use Rattle.std.proofs.Common.{nat_le, IsTrue, IsFalse, refl, sym, ◌∙◌, ap, subst, inl, inr, arith, leb-true, ltb-true, eqb-true, eq-eqb, ◌≢◌}
use Rattle.std.proofs.lemmas.Bool.{both_ways, and_parts, and_from, or_cases, cases_Bool, cond-true, cond-false}
use Rattle.std.proofs.lemmas.Option.{none-some, same_Some}
use Rattle.std.specs.List.{list_all}
use Rattle.std.specs.Option.{option_and_then, option_map}
use Rattle.tardis_base.specs.declared.ids.StateId.{StateId}
use Rattle.tardis_base.specs.declared.records.Write.{Write}
use Rattle.tardis_base.specs.declared.records.Write.TheVariants.{Put, Delete}
use Rattle.tardis_base.specs.declared.records.Record.{Record}
use Rattle.tardis_base.specs.Ids.{root, same_id, is_among}
use Rattle.tardis_base.specs.Keys.{KeyWrite, write_of, with_key, keys_of, are_ascending_keys, is_key_before}
use Rattle.tardis_base.specs.Valid.{is_u16, is_u32, is_id, is_key, is_write, are_parents, are_writes, is_record}
use Rattle.wire_talk.specs.Valid.{is_reply}
use Rattle.plain_dag.specs.States.{states, arrived, children, is_known, record_at, count_of_site}
use Rattle.plain_dag.specs.Writers.{version_at, latest_writer, lowest, read}
use Rattle.plain_dag.specs.Conflicts.{with_keys_of, written_keys, latest_writers, value_over}
use Rattle.plain_dag.specs.Dag.{IsDag}
use Rattle.plain_dag.proofs.Ids.{not-both, same_id-true}
use Rattle.plain_dag.proofs.States.{children-of-parent, children-before}
use Rattle.plain_dag.proofs.Keys.{with-key-before, with-key-after, with-key-same}
use Rattle.plain_site.specs.Answers.{shown, found}
use Rattle.plain_site.proofs.RepliesLists.{first, second, all-append, all-found}

-- ===== Records

-- the id is one, and what is written may be
abbrev pub is_stored : Record → Bool
is_stored r = is_id r.id && are_writes r.writes

-- the parts of a record
pub record IsShaped (r : Record) : Type 0 where
  pub id : IsTrue (is_id r.id)
  pub other : IsTrue (not (same_id r.id root))
  pub parents : IsTrue (are_parents r.parents)
  pub writes : IsTrue (are_writes r.writes)

pub record-shape : (r : Record) → IsTrue (is_record r) → IsShaped r
record-shape r h =
    let a = and_parts (is_id r.id && not (same_id r.id root) && are_parents r.parents) (are_writes r.writes) h in
    let b = and_parts (is_id r.id && not (same_id r.id root)) (are_parents r.parents) a.0 in
    let c = and_parts (is_id r.id) (not (same_id r.id root)) b.0 in
    record { id = c.0; other = c.1; parents = b.1; writes = a.1 }

pub shape-stored : (r : Record) → IsTrue (is_record r) → IsTrue (is_stored r)
shape-stored r h = let s = record-shape r h in and_from (is_id r.id) (are_writes r.writes) s.id s.writes

pub dag-stored : (rs : List Record) → IsDag rs → IsTrue (list_all is_stored rs)
dag-stored [] dag = absurd (dag)
dag-stored (r ∷ []) e = subst (λ q. IsTrue (list_all is_stored (q ∷ []))) (sym e) refl
dag-stored (r ∷ s ∷ rs) dag = and_from (is_stored r) (list_all is_stored (s ∷ rs)) (shape-stored r dag.0.shape) (dag-stored (s ∷ rs) dag.1)

-- ===== Ids

id-of : (r : Record) (rs : List Record) → IsTrue (list_all is_stored (r ∷ rs)) → IsTrue (is_id r.id)
id-of r rs h = first (is_id r.id) (are_writes r.writes) (first (is_stored r) (list_all is_stored rs) h)

rest-of : (r : Record) (rs : List Record) → IsTrue (list_all is_stored (r ∷ rs)) → IsTrue (list_all is_stored rs)
rest-of r rs h = second (is_stored r) (list_all is_stored rs) h

pub states-are-ids : (rs : List Record) → IsTrue (list_all is_stored rs) → IsTrue (list_all is_id (states rs))
states-are-ids [] h = refl
states-are-ids (r ∷ rs) h = and_from (is_id r.id) (list_all is_id (states rs)) (id-of r rs h) (states-are-ids rs (rest-of r rs h))

pub arrived-are-ids : (rs : List Record) → IsTrue (list_all is_stored rs) → IsTrue (list_all is_id (arrived rs))
arrived-are-ids [] h = refl
arrived-are-ids (r ∷ rs) h = all-append is_id (arrived rs) (r.id ∷ []) (arrived-are-ids rs (rest-of r rs h)) (and_from (is_id r.id) true (id-of r rs h) refl)

pub among-is-id : (xs : List StateId) (x : StateId) → IsTrue (list_all is_id xs) → IsTrue (is_among x xs) → IsTrue (is_id x)
among-is-id [] x h m = not-both true refl (sym m)
among-is-id (y ∷ ys) x h m = elim (or_cases (same_id x y) (is_among x ys) m) [
  | inl t ↦ subst (λ z. IsTrue (is_id z)) (sym (same_id-true x y t)) (first (is_id y) (list_all is_id ys) h)
  | inr n ↦ among-is-id ys x (second (is_id y) (list_all is_id ys) h) n
]

pub known-is-id : (rs : List Record) (x : StateId) → IsTrue (list_all is_stored rs) → IsTrue (is_known rs x) → IsTrue (is_id x)
known-is-id rs x h k = among-is-id (states rs) x (states-are-ids rs h) k

pub children-are-ids : (rs : List Record) (x : StateId) → IsTrue (list_all is_stored rs) → IsTrue (list_all is_id (children rs x))
children-are-ids [] x h = refl
children-are-ids (r ∷ rs) x h = elim (cases_Bool (is_among x r.parents)) [
  | inl t ↦
      subst (λ cs. IsTrue (list_all is_id cs)) (sym (children-of-parent rs r x t))
      (all-append is_id (children rs x) (r.id ∷ []) (children-are-ids rs x (rest-of r rs h)) (and_from (is_id r.id) true (id-of r rs h) refl))
  | inr f ↦ subst (λ cs. IsTrue (list_all is_id cs)) (sym (children-before rs r x f)) (children-are-ids rs x (rest-of r rs h))
]

-- ===== Keys and values

abbrev pub is_key_write : KeyWrite → Bool
is_key_write w = is_key w.0 && is_write w.1

pub each-write : (ws : List KeyWrite) → IsTrue (are_writes ws) → IsTrue (list_all is_key_write ws)
each-write ws h =
    second (nat_le (length ws) 64) (list_all is_key_write ws)
    (first (nat_le (length ws) 64 && list_all is_key_write ws) (are_ascending_keys (keys_of ws)) h)

-- what is found among valid writes is one
pub write-of-is-write : (k : List ℕ) (ws : List KeyWrite) (w : Write) → IsTrue (list_all is_key_write ws) → write_of k ws ≡ Some w → IsTrue (is_write w)
write-of-is-write k ws w h e = go (find (λ v. Rattle.std.specs.Prelude.bytes_eq k v.0) ws) refl e
  where
    go : (o : Option KeyWrite) → find (λ v. Rattle.std.specs.Prelude.bytes_eq k v.0) ws ≡ o → option_map (λ v. v.1) o ≡ Some w → IsTrue (is_write w)
    go None is e = absurd (cc)
    go (Some v) is e =
        subst (λ z. IsTrue (is_write z)) (same_Some v.1 w e)
        (second (is_key v.0) (is_write v.1) (all-found is_key_write (λ v. Rattle.std.specs.Prelude.bytes_eq k v.0) ws v h is))

pub all-with-key : (k : List ℕ) (ls : List (List ℕ)) → IsTrue (is_key k) → IsTrue (list_all is_key ls) → IsTrue (list_all is_key (with_key k ls))
all-with-key k [] h a = and_from (is_key k) true h refl
all-with-key k (l ∷ ls) h a = elim (cases_Bool (is_key_before k l)) [
  | inl t ↦ subst (λ zs. IsTrue (list_all is_key zs)) (sym (with-key-before k l ls t)) (and_from (is_key k) (list_all is_key (l ∷ ls)) h a)
  | inr f ↦ elim (cases_Bool (is_key_before l k)) [
    | inl t ↦
        subst (λ zs. IsTrue (list_all is_key zs)) (sym (with-key-after k l ls f t))
        (and_from (is_key l) (list_all is_key (with_key k ls)) (first (is_key l) (list_all is_key ls) a)
        (all-with-key k ls h (second (is_key l) (list_all is_key ls) a)))
    | inr n ↦
        subst (λ zs. IsTrue (list_all is_key zs)) (sym (with-key-same k l ls f n))
        (and_from (is_key k) (list_all is_key ls) h (second (is_key l) (list_all is_key ls) a))
  ]
]

all-with-keys : (ws : List KeyWrite) (ks : List (List ℕ)) → IsTrue (list_all is_key_write ws) → IsTrue (list_all is_key ks) →
    IsTrue (list_all is_key (with_keys_of ws ks))
all-with-keys [] ks h a = a
all-with-keys (w ∷ ws) ks h a =
    all-with-key w.0 (with_keys_of ws ks) (first (is_key w.0) (is_write w.1) (first (is_key_write w) (list_all is_key_write ws) h))
    (all-with-keys ws ks (second (is_key_write w) (list_all is_key_write ws) h) a)

pub written-are-keys : (rs : List Record) → IsTrue (list_all is_stored rs) → IsTrue (list_all is_key (written_keys rs))
written-are-keys [] h = refl
written-are-keys (r ∷ rs) h =
    all-with-keys r.writes (written_keys rs) (each-write r.writes (second (is_id r.id) (are_writes r.writes) (first (is_stored r) (list_all is_stored rs) h)))
    (written-are-keys rs (rest-of r rs h))

-- ===== Reads

abbrev pub is_version : StateId × Write → Bool
is_version v = is_id v.0 && is_write v.1

pub version-is-valid : (rs : List Record) (k : List ℕ) (x : StateId) (v : StateId × Write) → IsTrue (list_all is_stored rs) → version_at rs k x ≡ Some v →
    IsTrue (is_version v)
version-is-valid rs k x v h e = go (record_at rs x) refl e
  where
    written : (r : Record) (o : Option Write) → IsTrue (is_stored r) → x ≡ r.id → write_of k r.writes ≡ o → option_map (λ w. (x, w)) o ≡ Some v →
        IsTrue (is_version v)
    written r None s same is e = absurd (none-some v e)
    written r (Some w) s same is e =
        subst (λ z. IsTrue (is_version z)) (same_Some (x, w) v e)
        (and_from (is_id x) (is_write w) (subst (λ z. IsTrue (is_id z)) (sym same) (first (is_id r.id) (are_writes r.writes) s))
        (write-of-is-write k r.writes w (each-write r.writes (second (is_id r.id) (are_writes r.writes) s)) is))

    same-as : (rs : List Record) (r : Record) → record_at rs x ≡ Some r → x ≡ r.id
    same-as [] r e = absurd (none-some r e)
    same-as (q ∷ qs) r e = elim (cases_Bool (same_id x q.id)) [
      | inl t ↦ same_id-true x q.id t ∙ ap (λ (z : Record). z.id) (same_Some q r (sym (cond-true (same_id x q.id) (Some q) (record_at qs x) t) ∙ e))
      | inr f ↦ same-as qs r (sym (cond-false (same_id x q.id) (Some q) (record_at qs x) f) ∙ e)
    ]

    go : (o : Option Record) → record_at rs x ≡ o → option_map (λ w. (x, w)) (option_and_then (λ r. write_of k r.writes) o) ≡ Some v → IsTrue (is_version v)
    go None is e = absurd (none-some v e)
    go (Some r) is e = written r (write_of k r.writes) (all-found is_stored (λ r. same_id x r.id) rs r h is) (same-as rs r is) refl e

shown-is-reply : (v : StateId × Write) → IsTrue (is_version v) → IsTrue (is_reply (shown v.0 v.1))
shown-is-reply v h = go v.1 h
  where
    go : (w : Write) → IsTrue (is_id v.0 && is_write w) → IsTrue (is_reply (shown v.0 w))
    go (Put value) h = h
    go Delete h = first (is_id v.0) true h

found-is-reply : (o : Option (StateId × Write)) → ((v : StateId × Write) → o ≡ Some v → IsTrue (is_version v)) → IsTrue (is_reply (found o))
found-is-reply None f = refl
found-is-reply (Some v) f = shown-is-reply v (f v refl)

chosen-is-valid : (rs : List Record) (k : List ℕ) (o : Option StateId) (v : StateId × Write) → IsTrue (list_all is_stored rs) →
    option_and_then (version_at rs k) o ≡ Some v → IsTrue (is_version v)
chosen-is-valid rs k None v h e = absurd (none-some v e)
chosen-is-valid rs k (Some x) v h e = version-is-valid rs k x v h e

pub read-is-reply : (rs : List Record) (k : List ℕ) (x : StateId) → IsTrue (list_all is_stored rs) → IsTrue (is_reply (found (read rs k x)))
read-is-reply rs k x h = found-is-reply (read rs k x) (λ v e. chosen-is-valid rs k (latest_writer rs k x) v h e)

pub value-is-reply : (rs : List Record) (xs : List StateId) (k : List ℕ) → IsTrue (list_all is_stored rs) → IsTrue (is_reply (found (value_over rs xs k)))
value-is-reply rs xs k h = found-is-reply (value_over rs xs k) (λ v e. chosen-is-valid rs k (lowest rs (latest_writers rs k xs)) v h e)

-- an own write is shown with the root for its writer
pub own-is-reply : (w : Write) → IsTrue (is_write w) → IsTrue (is_reply (shown root w))
own-is-reply w h = shown-is-reply (root, w) h

-- ===== Numbers

pub id-sequence-fits : (x : StateId) → IsTrue (is_id x) → x.sequence < 2 ^ 32
id-sequence-fits x h =
    let front = first (is_u16 x.site && is_u32 x.sequence) (same_id x root || nat_le 1 x.site && nat_le 1 x.sequence) h in
    ltb-true x.sequence (2 ^ 32) (second (is_u16 x.site) (is_u32 x.sequence) front)

count-here : (r : Record) (rs : List Record) (n : ℕ) → IsTrue (r.id.site == n) → count_of_site (r ∷ rs) n ≡ count_of_site rs n + 1
count-here r rs n t = cond-true (r.id.site == n) (count_of_site rs n + 1) (count_of_site rs n) t

count-elsewhere : (r : Record) (rs : List Record) (n : ℕ) → IsFalse (r.id.site == n) → count_of_site (r ∷ rs) n ≡ count_of_site rs n
count-elsewhere r rs n f = cond-false (r.id.site == n) (count_of_site rs n + 1) (count_of_site rs n) f

pub count-fits : (rs : List Record) (n : ℕ) → IsDag rs → count_of_site rs n < 2 ^ 32
count-fits [] n dag = absurd (dag)
count-fits (r ∷ []) n e = elim (cases_Bool (r.id.site == n)) [
  | inl t ↦ let c = count-here r [] n t in omega arith
  | inr f ↦ let c = count-elsewhere r [] n f in omega arith
]
count-fits (r ∷ s ∷ rs) n dag = elim (cases_Bool (r.id.site == n)) [
  | inl t ↦
      let c = count-here r (s ∷ rs) n t in
      let e = eqb-true r.id.site n t in
      let q : r.id.sequence ≡ count_of_site (s ∷ rs) n + 1 = subst (λ m. r.id.sequence ≡ count_of_site (s ∷ rs) m + 1) e dag.0.in_sequence in
      let l = id-sequence-fits r.id (record-shape r dag.0.shape).id in
      omega arith
  | inr f ↦
      let c = count-elsewhere r (s ∷ rs) n f in
      let l = count-fits (s ∷ rs) n dag.1 in
      omega arith
]

-- how many states the sites below this one made
abbrev counts-below : List Record → ℕ → ℕ
counts-below rs zero = 0
counts-below rs (suc n) = counts-below rs n + count_of_site rs n

counts-grow : (r : Record) (rs : List Record) (n : ℕ) → counts-below rs n ≤ counts-below (r ∷ rs) n
counts-grow r rs zero = omega arith
counts-grow r rs (suc n) =
    let l = counts-grow r rs n in
    elim (cases_Bool (r.id.site == n)) [
      | inl t ↦ let c = count-here r rs n t in omega arith
      | inr f ↦ let c = count-elsewhere r rs n f in omega arith
    ]

counts-more : (r : Record) (rs : List Record) (n : ℕ) → r.id.site < n → counts-below rs n + 1 ≤ counts-below (r ∷ rs) n
counts-more r rs zero l = absurd (omega arith)
counts-more r rs (suc n) l = elim (cases_Bool (r.id.site == n)) [
  | inl t ↦
      let c = count-here r rs n t in
      let g = counts-grow r rs n in
      omega arith
  | inr f ↦
      let c = count-elsewhere r rs n f in
      let d : r.id.site ≢ n = λ e. both_ways (r.id.site == n) f (eq-eqb r.id.site n e) in
      let m = counts-more r rs n (omega arith) in
      omega arith
]

counts-fit : (rs : List Record) (n : ℕ) → IsDag rs → counts-below rs n ≤ n * 4294967296
counts-fit rs zero dag = omega arith
counts-fit rs (suc n) dag = let c = count-fits rs n dag in let l = counts-fit rs n dag in omega arith

length-by-sites : (rs : List Record) (m : ℕ) → IsTrue (list_all (λ (x : StateId). nat_le x.site m) (states rs)) → length rs ≤ counts-below rs (suc m)
length-by-sites [] m h = omega arith
length-by-sites (r ∷ rs) m h =
    let parts = and_parts (nat_le r.id.site m) (list_all (λ (x : StateId). nat_le x.site m) (states rs)) h in
    let s = leb-true r.id.site m parts.0 in
    let more : counts-below rs (suc m) + 1 ≤ counts-below (r ∷ rs) (suc m) = counts-more r rs (suc m) (omega arith) in
    let l = length-by-sites rs m parts.1 in
    omega arith

-- there are no more states than 16 sites can make, and the root
pub history-fits : (rs : List Record) (m : ℕ) → IsDag rs → m ≤ 16 → IsTrue (list_all (λ (x : StateId). nat_le x.site m) (states rs)) → length rs < 2 ^ 64
history-fits rs m dag few h =
    let l = length-by-sites rs m h in
    let c = counts-fit rs (suc m) dag in
    omega arith
