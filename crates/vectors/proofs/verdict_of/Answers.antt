-- Addresses of the family are narrow enough for matching.
use mathlib.Core.Path.{◌≡◌}
use Prim.Native.Nat.{◌≤◌}
use borrow.Author.Rules.{rules}
use Rattle.rule.specs.declared.Family.{Family}
use Rattle.rule.specs.declared.AddressFamily.{AddressFamily}
use Rattle.rule.specs.Family.{family_of}
use Rattle.rule.proofs.FamilyLaws.{chosen-fits}
use Rattle.vectors.proofs.verdict_of.Goals as goal

narrow : (which : AddressFamily) (family : Family) → family ≡ family_of which → family.width ≤ 128
narrow which family e = (chosen-fits which family e).narrow

pub matches_rule-requires : goal.matches_rule-requires
matches_rule-requires c = search (narrow, rules)
