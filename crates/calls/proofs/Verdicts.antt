-- **T is never set in a verdict**: the merged actions of a lookup carry none. Assumes nothing.
use mathlib.Core.Path.{◌≡◌, refl}
use mathlib.Core.Bool.{false}
use mathlib.Core.List.{List, [], ◌∷◌}
use Prim.Native.Nat.{ℕ}
use lib.Dec.{eqb}
use lib.ListN.{length}
use Rattle.std.proofs.Common.{Option, Some, None}
use Rattle.octets.proofs.Cases.{by-test}
use Rattle.rule.specs.declared.Family.{Family}
use Rattle.action.specs.declared.Actions.{Actions}
use Rattle.action.specs.Actions.{no_actions}
use Rattle.action.specs.Merging.{merged}
use Rattle.action.proofs.MergingLaws.{merged-no-T}
use Rattle.packet.specs.declared.Packet.{Packet}
use Rattle.packet.specs.Packet.{packet_of}
use Rattle.entry.specs.Entry.{Entry}
use Rattle.table.specs.Walk.{entries}
use Rattle.table.specs.Sound.{sound_table}
use Rattle.lookup.specs.Lookup.{hit, collected, merged_onto, verdict_of, verdict_for}
use Rattle.lookup.specs.Opening.{opening_of, opening}
use Rattle.flowspec.specs.Look.{no_head, looked_up, looking_up}
use Rattle.std.proofs.Common.{Result, Ok, Err, Option, Some, None}
use Rattle.rule.specs.declared.Refusal.{Refusal}
use Rattle.lookup.specs.declared.Matched.{Matched}

onto-no-T : (a : Actions) (es : List Entry) → a.onward ≡ false → (merged_onto a es).onward ≡ false
unfolding merged_onto
onto-no-T a [] h = h
onto-no-T a (e ∷ es) h = onto-no-T (merged a e.actions) es (merged-no-T a e.actions)

abbrev pub NoT : Result (Option Matched) Refusal → Type 0
NoT (Ok None) = Unit {0}
NoT (Ok (Some rules)) = rules.actions.onward ≡ false
NoT (Err refusal) = Unit {0}

pub lookup-no-T : (family : Family) (t octets : List ℕ) → NoT (looking_up family t octets)
unfolding looking_up opening verdict_for verdict_of
lookup-no-T family t octets = by-test (sound_table family t) (λ s. rw s (go (packet_of family octets))) (λ s. rw s tt)
  where
    go : (s : Option Packet) → NoT (looked_up family t (opening_of s))
    go None = tt
    go (Some packet) =
        let es = collected (hit family no_head packet) (entries t) in
        by-test (eqb (length es) 0) (λ z. rw z tt) (λ z. rw z (onto-no-T no_actions es refl))
