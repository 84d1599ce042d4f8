-- When an attribute is refused, said a second time. 19: by the octets of an attribute that is taken, written out; that the tests of
-- Head.antt hold exactly there is shown in proofs/HeadLaws.antt. 1 to 7: by the places where rules begin in it, one of them is refused and
-- all before it are accepted, or all are; that the walk over the rules (Rules.antt) ends so is shown in proofs/RefusalsLaws.antt.
use Rattle.std.specs.Prelude.{ℕ, ◌+◌, ◌<◌, ◌≤◌, ◌≡◌, List, ◌∷◌, length, drop}
use Rattle.rule.specs.declared.Family.{Family}
use Rattle.rule.specs.Refusal.{RefusedWith}
use Rattle.rule.specs.Reading.{rule_end, check_rule}
use Rattle.attribute.specs.Head.{afi_of}
use Rattle.std.specs.Prelude.{Ok}

-- RFC 4760 section 3, for a family's flow rules: its AFI in two octets, SAFI 133, a next hop of length 0, a reserved octet that may be
-- anything, and something.
pub record ReachOctets (family : Family) (attribute : List ℕ) : Type 0 where
  pub reserved : ℕ
  pub first : ℕ
  pub rest : List ℕ
  pub is : attribute ≡ 0 ∷ afi_of family ∷ 133 ∷ 0 ∷ reserved ∷ first ∷ rest

-- Section 4, for the same: its AFI, SAFI 133, and whatever follows.
pub record UnreachOctets (family : Family) (attribute : List ℕ) : Type 0 where
  pub rest : List ℕ
  pub is : attribute ≡ 0 ∷ afi_of family ∷ 133 ∷ rest

-- In an attribute a rule begins, or the attribute ends, at a place: the first behind the head, each other behind an accepted rule.
pub data RuleBegins (family : Family) (attribute : List ℕ) (head : ℕ) : ℕ → Type 0 where
  first : RuleBegins family attribute head head
  next : {at : ℕ} → RuleBegins family attribute head at → at < length attribute → check_rule family (drop at attribute) ≡ Ok tt
      → RuleBegins family attribute head (at + rule_end (drop at attribute))

-- A rule is refused with a number at a place in its own value, and all rules before it are accepted.
pub record RulesRefused (family : Family) (attribute : List ℕ) (head number place : ℕ) : Type 0 where
  pub at : ℕ
  pub begins : RuleBegins family attribute head at
  pub inside : at < length attribute
  pub refused : RefusedWith (check_rule family (drop at attribute)) number place

-- All rules are accepted, up to the attribute's end.
pub record RulesAccepted (family : Family) (attribute : List ℕ) (head : ℕ) : Type 0 where
  pub at : ℕ
  pub begins : RuleBegins family attribute head at
  pub ends : length attribute ≤ at
