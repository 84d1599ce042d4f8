-- Looking a packet up. 01: "Lookup goes down the table; a matching rule is collected, and the walk stops after one without T. The verdict
-- is unmatched, or matched with the merged actions and the count collected; merged actions carry no T."
use Rattle.std.specs.Prelude.{ℕ, ◌+◌, Bool, true, false, cond, ◌&&◌, List, [], ◌∷◌, eqb, length}
use Rattle.octets.specs.Test.{same_list}
use Rattle.rule.specs.declared.Family.{Family}
use Rattle.rule.specs.Value.{head_of}
use Rattle.action.specs.declared.Actions.{Actions}
use Rattle.action.specs.Actions.{no_actions}
use Rattle.action.specs.Merging.{merged}
use Rattle.packet.specs.declared.Packet.{Packet}
use Rattle.matching.specs.Match.{matches}
use Rattle.lookup.specs.declared.Hit.{Hit}
use Rattle.lookup.specs.declared.Hit.TheVariants.{Missed, GoesOn, Stops}
use Rattle.table.specs.declared.Place.{Place}
use Rattle.entry.specs.Entry.{Entry}
use Rattle.table.specs.Sound.{cost}
use Rattle.std.specs.Prelude.{Option, Some, None}
use Rattle.lookup.specs.declared.Matched.{Matched}

-- Whether an entry's rule stands under a head: its value's head (the octets before its first component; none in IPv4 and IPv6) is that one.
abbrev pub under_head : Family → List ℕ → Entry → Bool
under_head family head e = same_list (head_of family e.value) head

-- Whether a packet matches the components of an entry's rule (RFC 8955 section 4.2).
abbrev pub components_match : Family → Packet → Entry → Bool
components_match family packet e = matches family e.value packet

-- Whether a packet, looked up under a head, matches an entry's rule: the rule stands under that head, and its components match.
abbrev pub hit : Family → List ℕ → Packet → Entry → Bool
hit family head packet e = under_head family head e && components_match family packet e

-- The entries collected: those that match, down to the first of them without T.
unfoldable pub collected : (Entry → Bool) → List Entry → List Entry
collected test [] = []
collected test (e ∷ es) = cond (test e) (e ∷ cond e.actions.onward (collected test es) []) (collected test es)

-- The actions of several entries merged, in the order of the table, onto those merged before.
unfoldable pub merged_onto : Actions → List Entry → Actions
merged_onto actions [] = actions
merged_onto actions (e ∷ es) = merged_onto (merged actions e.actions) es

-- The rules that a packet matches: their merged actions, and how many were collected.
abbrev pub matched : Actions → ℕ → Matched
matched actions count = record { actions = actions; count = count }

-- The verdict on merged actions and a count of rules: none is unmatched.
unfoldable pub verdict_of : Actions → ℕ → Option Matched
verdict_of actions count = cond (eqb count 0) None (Some (matched actions count))

-- The verdict on a packet, looked up under a head.
unfoldable pub verdict_for : Family → List ℕ → Packet → List Entry → Option Matched
verdict_for family head packet es =
    let rules = collected (hit family head packet) es in
    verdict_of (merged_onto no_actions rules) (length rules)

-- What one record says of a packet, as the code has it: that it misses, or its entry's actions with whether the walk goes on.
abbrev pub hit_of : Bool → Actions → Hit
hit_of false actions = Missed
hit_of true actions = cond actions.onward (GoesOn actions) (Stops actions)

-- Where the first match's record stands, among entries whose records begin at a place; 0 and 0 where nothing matches.
unfoldable pub first_place : (Entry → Bool) → ℕ → List Entry → Place
first_place test at [] = record { start = 0; end = 0 }
first_place test at (e ∷ es) = cond (test e) (record { start = at; end = at + cost e }) (first_place test (at + cost e) es)
