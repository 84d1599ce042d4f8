-- 2026-05: "the note is that of the first community, or first matching rule, giving the smallest number". So it is, as `SmallestOf` has it,
-- with the merged rates of matching rules, in the order of the table. Assumes nothing.
use mathlib.Core.Path.{◌≡◌, refl}
use mathlib.Core.List.{List, [], ◌∷◌, ◌++◌, map, append_assoc, append-nil}
use mathlib.Core.Logic.{inl}
use Rattle.action.specs.declared.Actions.{Actions}
use Rattle.action.specs.declared.Limit.{Limit}
use Rattle.action.specs.Limit.{smaller_of}
use Rattle.action.specs.Actions.{no_actions}
use Rattle.action.specs.Smallest.{SmallestOf}
use Rattle.action.specs.Merging.{merged}
use Rattle.action.proofs.SmallestLaws.{smallest-behind}
use Rattle.entry.specs.Entry.{Entry}
use Rattle.lookup.specs.Lookup.{merged_onto}

-- Rates of a kind, of which merging takes the smaller: merged onto actions whose rate is the smallest of some limits, those of entries give
-- the smallest of these limits with theirs behind them.
module _ (rate : Actions → Limit) (merges : (a b : Actions) → rate (merged a b) ≡ smaller_of (rate a) (rate b)) where
  onto-first : (before : List Limit) (actions : Actions) (es : List Entry) → SmallestOf before (rate actions)
      → SmallestOf (before ++ map (λ e. rate e.actions) es) (rate (merged_onto actions es))
  unfolding merged_onto
  onto-first before actions [] s = rw (append-nil before) s
  onto-first before actions (e ∷ es) s =
      let more = before ++ rate e.actions ∷ [] in
      let both : SmallestOf more (rate (merged actions e.actions)) =
      rw (merges actions e.actions) (smallest-behind before (rate actions) (rate e.actions) s) in
      rw (append_assoc before (rate e.actions ∷ []) (map (λ (f : Entry). rate f.actions) es)) at (onto-first more (merged actions e.actions) es both)

-- Of the byte rates and of the packet rates of matching rules, the merged one is the first that gives the smallest number.
pub merged-first : (es : List Entry)
    → SmallestOf (map (λ e. e.actions.bytes) es) (merged_onto no_actions es).bytes
    × SmallestOf (map (λ e. e.actions.packets) es) (merged_onto no_actions es).packets
unfolding merged
merged-first es =
    (onto-first (λ a. a.bytes) (λ a b. refl) [] no_actions es (inl (tt, refl)), onto-first (λ a. a.packets) (λ a b. refl) [] no_actions es (inl (tt, refl)))
