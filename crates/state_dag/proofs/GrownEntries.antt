-- What the entries of a table that has grown say.
use Rattle.std.proofs.Common.{◌≡◌, ℕ, Bool, true, false, cond, not, ◌||◌, ◌&&◌, eqb, leb, List, [], ◌∷◌, ◌++◌, length, map, find, Option, Some, None, IsTrue}
use Rattle.std.proofs.Common.{inl, inr, refl, sym, ap, ap₂, subst, ◌∙◌}
use Rattle.std.specs.Option.{option_map, option_map_or}
use Rattle.std.proofs.lemmas.Bool.{and_parts, cases_Bool}
use Rattle.std.proofs.lemmas.Option.{none-some, same_Some}
use Rattle.std.proofs.lemmas.List.{map-append}
use Rattle.tardis_base.specs.declared.ids.StateId.{StateId}
use Rattle.tardis_base.specs.declared.ids.Slot.{Slot}
use Rattle.tardis_base.specs.declared.records.Record.{Record}
use Rattle.tardis_base.specs.Ids.{is_among}
use Rattle.plain_dag.specs.States.{is_known, children}
use Rattle.plain_dag.specs.Collection.{kept_states, stand_in}
use Rattle.plain_dag.specs.Paths.{is_fork, leads_to}
use Rattle.plain_dag.proofs.Ids.{same_id_self, among-first, among-later}
use Rattle.plain_dag.proofs.Histories.{next-fits, known-isnt-newest, arrival-newest, arrival-before, parents-newest, parents-before}
use Rattle.plain_dag.proofs.States.{child_is_known}
use Rattle.plain_dag.proofs.StandIns.{kept-stands-for-itself}
use Rattle.state_dag.specs.Table.{Entry, Table, entry_at, id_at}
use Rattle.state_dag.specs.Stands.{is_taken, Shows, Stands}
use Rattle.state_dag.specs.Answers.{MayBeAdded}
use Rattle.state_dag.specs.Grown.{is_slot_among, is_first_branch, only_if, IsGrownEntry, IsGrown}
use Rattle.state_dag.proofs.GrownSlots.{or_else, found-slot, FoundBoth, ids-stay, slots-stay, looked, both, names-stay, none-named, new-named}
use Rattle.state_dag.proofs.Standing.{slot-is_kept}
use Rattle.state_dag.proofs.NextState.{children-next, newest-is_childless, stand_in-stays}
use Rattle.state_dag.proofs.ParentSlots.{slot_from, among-slots}
use Rattle.state_dag.proofs.Taken.{taken-old, taken-new}
use Rattle.state_dag.proofs.Refusals.{new-isnt_collected, kept-next}

module _ (old new : Table) (rs : List Record) (ks : List StateId) (r : Record) (parents : List Slot) (slot : Slot) (stands : Stands old rs ks)
    (may : MayBeAdded old rs ks r parents) (g : IsGrown old new r.id parents slot) where
  -- ===== Slots

  stays : (s : Slot) (y : StateId) → id_at old s ≡ Some y → id_at new s ≡ Some y
  stays = names-stay old new r.id parents slot g

  pub ids-next : map (λ e. e.id) new.entries ≡ kept_states (r ∷ rs) ks
  ids-next =
      ap (map (λ e. e.id)) g.entries
      ∙ (map-append (λ e. e.id) g.grown (g.newest ∷ [])
      ∙ (ap₂ (λ is (i : StateId). is ++ i ∷ []) (ids-stay old parents r.id slot old.entries g.grown g.each) g.is_new.id_is
      ∙ sym (kept-next old rs ks r stands may.next.new)))

  pub slots-next : map (λ e. id_at new e.slot) new.entries ≡ map (λ e. Some e.id) new.entries
  slots-next = subst (λ es. map (λ (e : Entry). id_at new e.slot) es ≡ map (λ (e : Entry). Some e.id) es) (sym g.entries)
      (map-append (λ e. id_at new e.slot) g.grown (g.newest ∷ [])
      ∙ (ap₂ (λ (is : List (Option StateId)) (i : Option StateId). is ++ i ∷ [])
      (slots-stay old parents r.id slot (id_at new) stays old.entries g.grown g.each stands.slots)
      (ap (id_at new) g.is_new.slot_is ∙ (new-named old new r.id parents slot g ∙ ap (λ z. Some z) (sym g.is_new.id_is)))
      ∙ sym (map-append (λ e. Some e.id) g.grown (g.newest ∷ []))))

  -- ===== Paths

  -- the new state is no fork, so new pairs stand for what they stood for
  taken-stays : (y : StateId) (pair : ℕ × ℕ) → is_taken new (r ∷ rs) y pair ≡ is_taken old (r ∷ rs) y pair
  taken-stays y pair = go (id_at old (record { 0 = pair.0 })) refl
    where
      go : (o : Option StateId) → id_at old (record { 0 = pair.0 }) ≡ o → is_taken new (r ∷ rs) y pair ≡ is_taken old (r ∷ rs) y pair
      go (Some p) is =
          ap (λ o. option_map_or (λ q. is_fork (r ∷ rs) q && leads_to (r ∷ rs) y (q, pair.1)) o false) (stays (record { 0 = pair.0 }) p is ∙ sym is)
      go None is = elim (none-named old new r.id parents slot g (record { 0 = pair.0 }) is) [
        | inl none ↦ ap (λ o. option_map_or (λ q. is_fork (r ∷ rs) q && leads_to (r ∷ rs) y (q, pair.1)) o false) (none ∙ sym is)
        | inr newest ↦
            ap (λ o. option_map_or (λ q. is_fork (r ∷ rs) q && leads_to (r ∷ rs) y (q, pair.1)) o false) newest
            ∙ (ap (λ cs. leb 2 (length cs) && leads_to (r ∷ rs) y (r.id, pair.1)) (newest-is_childless rs r stands.dag may.next)
            ∙ sym (ap (λ o. option_map_or (λ q. is_fork (r ∷ rs) q && leads_to (r ∷ rs) y (q, pair.1)) o false) is))
      ]

  -- ===== Old states

  -- slots name the stand-ins that they named
  stand_ins-stay : (ss : List Slot) (cs : List StateId) → ((c : StateId) → IsTrue (is_among c cs) → IsTrue (is_known rs c)) → map (id_at old) ss
      ≡ map (λ c. Some (stand_in rs ks c)) cs →
      map (id_at new) ss ≡ map (λ c. Some (stand_in (r ∷ rs) ks c)) cs
  stand_ins-stay [] [] known same = refl
  stand_ins-stay [] (c ∷ cs) known same = absurd (let bad : ⊥ = cc in bad)
  stand_ins-stay (s ∷ ss) [] known same = absurd (let bad : ⊥ = cc in bad)
  stand_ins-stay (s ∷ ss) (c ∷ cs) known same =
      let here : id_at old s ≡ Some (stand_in rs ks c) = cc in
      let rest : map (id_at old) ss ≡ map (λ d. Some (stand_in rs ks d)) cs = cc in
      ap₂ (λ (i : Option StateId) (is : List (Option StateId)). i ∷ is)
      (stays s (stand_in rs ks c) here ∙ ap (λ z. Some z) (sym (stand_in-stays rs r stands.dag may.next ks stands.shared c (known c (among-first c cs)))))
      (stand_ins-stay ss cs (λ d m. known d (among-later d c cs m)) rest)

  last-stand_in : (b : Bool) → map (id_at new) (only_if b slot) ≡ map (λ c. Some (stand_in (r ∷ rs) ks c)) (only_if b r.id)
  last-stand_in true =
      let itself = kept-stands-for-itself ks (r ∷ rs) r.id (new-isnt_collected old rs ks r stands may.next.new) in
      ap (λ (i : Option StateId). i ∷ []) (new-named old new r.id parents slot g ∙ ap (λ z. Some z) (sym itself))
  last-stand_in false = refl

  grown-shows : (s : Slot) (o e : Entry) → entry_at old s ≡ Some o → IsGrownEntry old parents r.id slot o e → Shows new (r ∷ rs) ks e o.id
  grown-shows s o e is grown =
      let shows = stands.shows s o is in
      let place : o.slot ≡ s = slot_from o.slot s (found-slot s.0 old.entries o is) in
      let here : id_at old s ≡ Some o.id = ap (option_map (λ (f : Entry). f.id)) is in
      let named : id_at old o.slot ≡ Some o.id = ap (id_at old) place ∙ here in
      let known = (and_parts (is_known rs o.id) (not (is_among o.id ks)) (slot-is_kept old rs ks stands s o.id here)).0 in
      let before = known-isnt-newest rs r o.id (next-fits rs r may.next) known in
      let among : is_slot_among o.slot parents ≡ is_among o.id r.parents = among-slots old rs ks stands parents r.parents may.slots o.slot o.id named in
      let child = children-next rs r stands.dag may.next o.id in
      record {
        named = grown.id_stays;
        arrived = grown.arrival_stays ∙ (shows.arrived ∙ sym (arrival-before rs r o.id before));
        has_parents = grown.parents_stay ∙ (shows.has_parents ∙ sym (parents-before rs r o.id before));
        has_children = grown.children ∙ (ap₂ (λ cs b. cs ++ only_if b r.id) shows.has_children among ∙ sym child);
        has_stand_ins =
            ap (map (id_at new)) (grown.stand_ins ∙ ap (λ b. o.stand_ins ++ only_if b slot) among)
            ∙ (map-append (id_at new) o.stand_ins (only_if (is_among o.id r.parents) slot)
            ∙ (ap₂ (λ is js. is ++ js) (stand_ins-stay o.stand_ins (children rs o.id) (λ c m. child_is_known rs o.id c m) shows.has_stand_ins)
            (last-stand_in (is_among o.id r.parents))
            ∙ (sym (map-append (λ c. Some (stand_in (r ∷ rs) ks c)) (children rs o.id) (only_if (is_among o.id r.parents) r.id))
            ∙ ap (map (λ c. Some (stand_in (r ∷ rs) ks c))) (sym child))));
        ascending = grown.ascending;
        has_path = λ pair.
            grown.path pair
            ∙ (ap (λ b. b || is_first_branch old parents o.slot pair) (shows.has_path pair)
            ∙ (sym (taken-old old rs ks r parents stands may o.slot o.id named pair) ∙ sym (taken-stays o.id pair)));
      }

  -- ===== The new state

  parents-named : (ps qs : List StateId) → map (λ p. Some p) ps ≡ map (λ q. Some q) qs → ps ≡ qs
  parents-named [] [] same = refl
  parents-named [] (q ∷ qs) same = absurd (let bad : ⊥ = cc in bad)
  parents-named (p ∷ ps) [] same = absurd (let bad : ⊥ = cc in bad)
  parents-named (p ∷ ps) (q ∷ qs) same =
      let here : p ≡ q = cc in
      let rest : map (λ (z : StateId). Some z) ps ≡ map (λ (z : StateId). Some z) qs = cc in
      ap₂ (λ (i : StateId) (is : List StateId). i ∷ is) here (parents-named ps qs rest)

  newest-shows : Shows new (r ∷ rs) ks g.newest r.id
  newest-shows =
      let childless = newest-is_childless rs r stands.dag may.next in
      record {
        named = g.is_new.id_is;
        arrived = g.is_new.arrival_is ∙ (stands.known ∙ sym (arrival-newest rs r r.id (same_id_self r.id)));
        has_parents = parents-named g.newest.parents r.parents (g.is_new.has_parents ∙ may.slots) ∙ sym (parents-newest rs r r.id (same_id_self r.id));
        has_children = g.is_new.no_children ∙ sym childless;
        has_stand_ins = ap (map (id_at new)) g.is_new.no_stand_ins ∙ sym (ap (map (λ c. Some (stand_in (r ∷ rs) ks c))) childless);
        ascending = g.is_new.path.ascending;
        has_path = λ pair. g.is_new.path.pairs pair ∙ (sym (taken-new old rs ks r parents stands may pair) ∙ sym (taken-stays r.id pair));
      }

  pub shows-next : (s : Slot) (e : Entry) → entry_at new s ≡ Some e → Shows new (r ∷ rs) ks e e.id
  shows-next s e is = go (entry_at old s) (find (λ f. eqb f.slot.0 s.0) g.grown) refl (both old new r.id parents slot g s)
      (sym (looked old new r.id parents slot g s) ∙ is)
    where
      go : (o n : Option Entry) → entry_at old s ≡ o → FoundBoth old parents r.id slot o n →
          or_else n (cond (eqb g.newest.slot.0 s.0) (Some g.newest) None) ≡ Some e → Shows new (r ∷ rs) ks e e.id
      go None None was b h = elim (cases_Bool (eqb g.newest.slot.0 s.0)) [
        | inl t ↦
            let same : g.newest ≡ e = same_Some g.newest e (rw t at h) in
            subst (λ f. Shows new (r ∷ rs) ks f f.id) same (subst (λ y. Shows new (r ∷ rs) ks g.newest y) (sym g.is_new.id_is) newest-shows)
        | inr f ↦ absurd (none-some e (rw f at h))
      ]
      go None (Some n) was b h = absurd (b)
      go (Some o) None was b h = absurd (b)
      go (Some o) (Some n) was b h =
          let same : n ≡ e = same_Some n e h in
          subst (λ f. Shows new (r ∷ rs) ks f f.id) same (subst (λ y. Shows new (r ∷ rs) ks n y) (sym b.id_stays) (grown-shows s o n was b))
