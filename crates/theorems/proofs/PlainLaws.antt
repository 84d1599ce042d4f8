-- Whether a rule is feasible hangs on its plain spelling alone, as its match does (matching/proofs/PlainLaws.antt): of the destination only
-- the offset, the length and the bits between are looked at. Assumes nothing but that the value is octets.
use mathlib.Core.Path.{◌≡◌, refl, sym, ap, ◌∙◌}
use mathlib.Core.List.{List, [], ◌∷◌, map}
use Prim.Native.Nat.{ℕ}
use lib.Dec.{eqb}
use borrow.Author.Tests.{eqb-true}
use Rattle.octets.specs.Test.{Each}
use Rattle.octets.proofs.Cases.{by-test}
use Rattle.octets.proofs.Facts.{Octets}
use Rattle.rule.specs.declared.Family.{Family}
use Rattle.rule.specs.Family.{Fits}
use Rattle.rule.specs.Shape.{shape_of}
use Rattle.rule.specs.Value.{Component, components}
use Rattle.spelling.specs.Plain.{body_of, plain}
use Rattle.spelling.specs.PlainComponent.{plain_component}
use Rattle.spelling.proofs.SpellingLaws.{components-plain}
use Rattle.rule.proofs.ComponentsLaws.{SoundComponent, each-octets, each-sound}
use Rattle.route.specs.declared.Origin.{Origin}
use Rattle.route.specs.Route.{routes_of}
use Rattle.route.specs.Destination.{destination_for, destination_among, destination_of}
use Rattle.route.proofs.AlikeLaws.{AlikeTo, destinations-alike}
use Rattle.matching.proofs.PatternLaws.{pattern-plain}
use Rattle.request.specs.Input.{Policy}
use Rattle.request.specs.Judging.{is_feasible}

-- the destination in the plain spelling differs past its length at most
destination-alike : (family : Family) → Fits family → (ps : List Component) → Each (λ p. Octets p.body) ps → Each (SoundComponent family) ps
    → AlikeTo family.width (destination_among family (map (plain_component family) ps)) (destination_among family ps)
unfolding destination_among destination_for body_of shape_of
destination-alike family fits [] o s = tt
destination-alike family fits (p ∷ ps) o s =
    by-test (eqb p.kind 1) (λ t. let e = eqb-true p.kind 1 t in rw e (pattern-plain family fits p.body o.0 (s.0.prefix (rw e refl))))
    (λ t. rw t (destination-alike family fits ps o.1 s.1))

-- **a rule is feasible where its plain spelling is**, whatever octets its value is
pub feasible-plain : (family : Family) → Fits family → (policy : Policy) (v : List ℕ) (origin : Origin) → Octets v → is_feasible family policy (plain family v) origin ≡ is_feasible family policy v origin
unfolding is_feasible destination_of
feasible-plain family fits policy v origin o =
    rw (components-plain family v o)
    (destinations-alike family.width policy.settings _ _ origin (routes_of family policy.routes)
    (destination-alike family fits (components family v) (each-octets family v o) (each-sound family v)))

-- values of one plain spelling, which are one rule, are judged alike
pub feasible-alone : (family : Family) → Fits family → (policy : Policy) (v w : List ℕ) (origin : Origin) → Octets v → Octets w → plain family v ≡ plain family w
    → is_feasible family policy v origin ≡ is_feasible family policy w origin
feasible-alone family fits policy v w origin o q e =
    sym (feasible-plain family fits policy v origin o) ∙ ap (λ (x : List ℕ). is_feasible family policy x origin) e
    ∙ feasible-plain family fits policy w origin q
