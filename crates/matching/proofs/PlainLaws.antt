-- Whether a packet matches a rule hangs on the rule's plain spelling alone: what the plain spelling clears decides no pair, the first
-- AND of a list is no matter, and of a prefix only the bits of its pattern are compared. Assumes nothing.
use mathlib.Core.Path.{◌≡◌, refl, sym, ap, ◌∙◌}
use mathlib.Core.Bool.{Bool, true, false, ◌&&◌}
use mathlib.Core.List.{List, [], ◌∷◌, map}
use Prim.Native.Nat.{ℕ, ◌<◌}
use lib.Bits.{bit_and}
use Rattle.std.proofs.Common.{Option, Some, None}
use Rattle.octets.specs.Test.{every, one_holds, Each}
use Rattle.octets.proofs.Cases.{by-test}
use Rattle.octets.proofs.Facts.{Octets, octet}
use Rattle.prefix.specs.Prefix.{address_of}
use Rattle.prefix.proofs.ContainLaws.{covers-alike}
use Rattle.rule.specs.declared.Family.{Family}
use Rattle.rule.specs.declared.Shape.{Shape}
use Rattle.spelling.specs.Plain.{Length, Operator, body_of, without_reserved, plain_operator, plain_operand, plain_from, plain}
use Rattle.rule.specs.Family.{Fits}
use Rattle.rule.specs.Shape.{shape_of}
use Rattle.rule.specs.Component.{Pair, pairs_from}
use Rattle.rule.specs.Value.{Component, components}
use Rattle.spelling.specs.PlainComponent.{plain_pair, plain_pairs, plain_component}
use Rattle.rule.proofs.ComponentLaws.{pairs-ind}
use Rattle.spelling.proofs.ClearedLaws.{operator-small, operand-again}
use Rattle.spelling.proofs.SpellingLaws.{pairs-plain, components-plain}
use Rattle.rule.proofs.ComponentsLaws.{PrefixBody, SoundComponent, each-octets, each-sound}
use Rattle.packet.specs.declared.Packet.{Packet}
use Rattle.matching.specs.PairList.{list_holds}
use Rattle.matching.specs.Match.{holds_for, pair_holds, body_holds, field_matches, fields_for, body_covers, address_for, component_matches, matches}
use Rattle.matching.proofs.OperatorLaws.{numeric-alike, mask-alike}
use Rattle.matching.proofs.PairListLaws.{goes_on, from_first}
use Rattle.matching.proofs.PatternLaws.{pattern-plain}

-- what clearing keeps of an operator: the bits that choose the test, and the AND of one that is not the first
numeric-kept : (first : Bool) (x : ℕ) → x < 256 → bit_and (plain_operator false first x) 7 ≡ bit_and x 7
unfolding plain_operator without_reserved
numeric-kept true = octet (λ y. bit_and (plain_operator false true y) 7) (λ y. bit_and y 7) refl
numeric-kept false = octet (λ y. bit_and (plain_operator false false y) 7) (λ y. bit_and y 7) refl

mask-kept : (first : Bool) (x : ℕ) → x < 256 → bit_and (plain_operator true first x) 3 ≡ bit_and x 3
unfolding plain_operator without_reserved
mask-kept true = octet (λ y. bit_and (plain_operator true true y) 3) (λ y. bit_and y 3) refl
mask-kept false = octet (λ y. bit_and (plain_operator true false y) 3) (λ y. bit_and y 3) refl

and_kept : (bitmask : Bool) (x : ℕ) → x < 256 → bit_and (plain_operator bitmask false x) 0x40 ≡ bit_and x 0x40
unfolding plain_operator without_reserved
and_kept true = octet (λ y. bit_and (plain_operator true false y) 0x40) (λ y. bit_and y 0x40) refl
and_kept false = octet (λ y. bit_and (plain_operator false false y) 0x40) (λ y. bit_and y 0x40) refl

-- a pair in the plain spelling holds where the pair does
module _ (shape : Shape) («data» : ℕ) where
  pair-plain : (first : Bool) (p : Pair) → p.operator < 256 → pair_holds shape «data» (plain_pair shape first p) ≡ pair_holds shape «data» p
  unfolding holds_for
  pair-plain first p small =
      let operator = p.operator in
      let wanted = plain_operand shape.ignored p.value in
      rw (operand-again shape.ignored p.value)
      (by-test shape.bitmask
      (λ t. rw t (mask-alike «data» wanted (plain_operator true first operator) operator (operator-small true first operator small) small (mask-kept first operator small)))
      (λ t. rw t (numeric-alike «data» wanted (plain_operator false first operator) operator (operator-small false first operator small) small (numeric-kept first operator small))))

  -- each operator is an octet
  abbrev Small : List Pair → Type 0
  Small = Each (λ p. p.operator < 256)

  pairs_small : (body : List ℕ) → Octets body → Small (pairs_from shape.largest body 0).items
  pairs_small body o =
      pairs-ind shape.largest body (λ at w. Small w.items) (λ at refusal e. tt) (λ at next e. (o at, tt)) (λ at next w e h. (o at, h)) 0

  goes-plain : (group : Bool) (ps : List Pair) → Small ps
      → goes_on (pair_holds shape «data») group (plain_pairs shape false ps) ≡ goes_on (pair_holds shape «data») group ps
  goes-plain group [] s = refl
  goes-plain group (p ∷ ps) s =
      rw (
        and_kept shape.bitmask p.operator s.0,
        pair-plain false p s.0,
        goes-plain (group && pair_holds shape «data» p) ps s.1,
        goes-plain (pair_holds shape «data» p) ps s.1,
      )

  list-plain : (ps : List Pair) → Small ps → list_holds (pair_holds shape «data») (plain_pairs shape true ps) ≡ list_holds (pair_holds shape «data») ps
  list-plain [] s = refl
  list-plain (p ∷ ps) s =
      from_first (pair_holds shape «data») (plain_pair shape true p) (plain_pairs shape false ps)
      ∙ rw (pair-plain true p s.0) (goes-plain (pair_holds shape «data» p) ps s.1)
      ∙ sym (from_first (pair_holds shape «data») p ps)

-- a list in the plain spelling matches a field where the list does
module _ (family : Family) (kind : ℕ) (body : List ℕ) (o : Octets body) where
  abbrev shape : Shape
  shape = shape_of family kind

  abbrev spelled : List ℕ
  spelled = plain_from family (Operator kind true) body

  body-plain : («data» : ℕ) → body_holds shape spelled «data» ≡ body_holds shape body «data»
  unfolding body_holds
  body-plain «data» = rw (pairs-plain family kind body o) (list-plain shape «data» (pairs_from shape.largest body 0).items (pairs_small shape «data» body o))

  field_plain : (field : Option ℕ) → field_matches shape spelled field ≡ field_matches shape body field
  unfolding field_matches
  field_plain (Some «data») = body-plain «data»
  field_plain None = refl

  -- and one of several fields
  fields-plain : (fields : List (Option ℕ)) → one_holds (field_matches shape spelled) fields ≡ one_holds (field_matches shape body) fields
  unfolding one_holds
  fields-plain [] = refl
  fields-plain (field ∷ fields) = rw (field_plain field, fields-plain fields)

module _ (family : Family) (fits : Fits family) (packet : Packet) where
  -- a prefix in the plain spelling covers what the prefix does
  prefix-plain : (body : List ℕ) (address : ℕ) → Octets body → PrefixBody family body → body_covers family (plain_from family Length body) address ≡ body_covers family body address
  unfolding body_covers
  prefix-plain body address o sound = covers-alike family.width _ _ (pattern-plain family fits body o sound) address

  -- a component in the plain spelling matches where the component does
  component-plain : (p : Component) → Octets p.body → SoundComponent family p → component_matches family packet (plain_component family p) ≡ component_matches family packet p
  unfolding component_matches body_of shape_of
  component-plain p o sound =
      let kind = p.kind in
      let body = p.body in
      by-test (shape_of family kind).prefix
      (λ t. rw (t) (prefix-plain body (address_of (address_for kind packet)) o (sound.prefix t)))
      (λ t. rw (t) (fields-plain family kind body o (fields_for kind packet)))

  all_plain : (ps : List Component) → Each (λ p. Octets p.body) ps → Each (SoundComponent family) ps
      → every (component_matches family packet) (map (plain_component family) ps) ≡ every (component_matches family packet) ps
  unfolding every
  all_plain [] o s = refl
  all_plain (p ∷ ps) o s = rw (component-plain p o.0 s.0, all_plain ps o.1 s.1)

  -- a rule in the plain spelling is matched where the rule is, whatever octets its value is
  pub matches-plain : (v : List ℕ) → Octets v → matches family (plain family v) packet ≡ matches family v packet
  unfolding matches
  matches-plain v o = rw (components-plain family v o) (all_plain (components family v) (each-octets family v o) (each-sound family v))

  -- values of one plain spelling are matched alike: 01: "Two rules are the same rule when their plain spellings are equal."
  pub plain-alone : (v w : List ℕ) → Octets v → Octets w → plain family v ≡ plain family w → matches family v packet ≡ matches family w packet
  plain-alone v w o q e = sym (matches-plain v o) ∙ ap (λ (x : List ℕ). matches family x packet) e ∙ matches-plain w q
