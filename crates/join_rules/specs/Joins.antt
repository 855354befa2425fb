-- The request to join leaves by rules, and a site as a machine that is asked it too.
use Rattle.std.specs.Prelude.{ℕ, Bool, false, ◌==◌, ◌&&◌, not, nat_lt, length, List, [], ◌∷◌, Option, Some, None, if◌then◌else◌}
use Rattle.std.specs.Option.{option_map_or}
use Rattle.std.specs.Str.{is_utf8}
use Rattle.tardis_base.specs.declared.records.Record.{Record}
use Rattle.tardis_base.specs.declared.records.Item.TheVariants.{State}
use Rattle.tardis_base.specs.Plain.{PlainMachine}
use Rattle.tardis_base.specs.Valid.{is_record}
use Rattle.plain_dag.specs.Forks.{leaves}
use Rattle.plain_site.specs.Site.{Site, next_record}
use Rattle.plain_site.specs.Commits.{with_record}
use Rattle.plain_site.specs.Rest.{Lasting, News, fits}
use Rattle.rule_list.specs.declared.rules.PrefixRule.{PrefixRule}
use Rattle.rule_list.specs.RuleTexts.{rules_of}
use Rattle.join_rules.specs.declared.join_codes.TheConstants.{JOIN, JOINED, ONE_LEAF, LEFT, NO_RULES, FOR_OTHERS}
use Rattle.join_rules.specs.declared.joints.Joint.{Joint}
use Rattle.join_rules.specs.Joints.{first_joint, is_for_others}

-- a request to join leaves
abbrev pub is_join : List ℕ → Bool
is_join [] = false
is_join (code ∷ fields) = code == JOIN

-- the rules in its text, where that has their form
abbrev pub rules_in : List ℕ → Option (List PrefixRule)
rules_in text = if is_utf8 text then rules_of text else None

-- the site's next record, below the two leaves, with what the rules write
abbrev pub record_of : Site → Joint → Record
record_of site joint = next_record site (joint.first ∷ joint.second ∷ []) joint.writes

-- it is a record, and nothing speaks against it
abbrev pub may_arrive : Site → Record → Bool
may_arrive site r = is_record r && fits site (News (State r))

-- what comes of a joint, and the record that arrives
abbrev pub added : Site → Joint → ℕ × Option Record
added site joint = let r = record_of site joint in if may_arrive site r then (JOINED, Some r) else (LEFT, None)

-- what is told where this site joins no two: others are to, or the leaves stay apart, or there is one
abbrev pub unjoined : Site → (for_others : Bool) → ℕ
unjoined site for_others =
    if for_others then FOR_OTHERS else
    if nat_lt 1 (length (leaves site.dag)) then LEFT else ONE_LEAF

-- What comes of the site's first joint, if it has one; else it is told whether others are to join two leaves.
abbrev pub joined : Site → Option Joint → (for_others : Bool) → ℕ × Option Record
joined site None for_others = (unjoined site for_others, None)
joined site (Some joint) for_others = added site joint

-- what comes of these rules with this patience
abbrev pub joined_by : Site → (patience : ℕ) → List PrefixRule → ℕ × Option Record
joined_by site patience rules =
    joined site (first_joint rules site.own patience site.dag) (is_for_others rules site.own patience site.dag)

-- what comes of a request's fields, which are its patience and the text of rules
abbrev pub join : Site → List ℕ → ℕ × Option Record
join site [] = (NO_RULES, None)
join site (patience ∷ text) = option_map_or (joined_by site patience) (rules_in text) (NO_RULES, None)

-- so of the bytes of a request
abbrev pub asked_to_join : Site → List ℕ → ℕ × Option Record
asked_to_join site [] = (NO_RULES, None)
asked_to_join site (code ∷ fields) = join site fields

-- the site with the record that arrives, if one does
abbrev pub with_joined : Option Record → Site → Site
with_joined None site = site
with_joined (Some r) site = with_record r site

-- what lasts of a request to join: the record that arrives
abbrev pub lasting_of_join : Site → List ℕ → Option Lasting
lasting_of_join site bytes = option_map_or (λ r. Some (News (State r))) (asked_to_join site bytes).1 None

-- A machine of sites that is asked to join leaves too: then a record arrives, or nothing changes. No session has a part in it. The
-- reply is the request's code and what came of it.
abbrev pub joining : PlainMachine Site → PlainMachine Site
joining m = record {
  step = λ site e. if is_join e.1 then with_joined (asked_to_join site e.1).1 site else m.step site e;
  reply = λ site e. if is_join e.1 then JOIN ∷ (asked_to_join site e.1).0 ∷ [] else m.reply site e;
  is_sure = λ e. not (is_join e.1) && m.is_sure e;
}
