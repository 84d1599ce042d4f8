-- Which of two comes first. RFC 8955 section 5.1 compares the octets of a body and the components of a rule alike: element by element,
-- and what runs out first comes later; its rule for prefixes comes to the same on their bits. `lex` says it once.
-- `lt` means that the first of the two comes first, `gt` that the second does, and `eq` that they tie.
use Prim.Native.Nat.{Ordering}
use Rattle.std.specs.Prelude.{List, [], ◌∷◌}
use Rattle.std.specs.declared.cmp.Ordering.{Ordering as Order}
use Rattle.std.specs.declared.cmp.Ordering.TheVariants.{Less, Equal, Greater}

-- The earlier comparison decides, and where it ties the later one does.
abbrev pub then : Ordering → Ordering → Ordering
then Ordering.lt o = Ordering.lt
then Ordering.eq o = o
then Ordering.gt o = Ordering.gt

-- Element by element; what runs out first comes later.
abbrev pub lex : {A : Type 0} → (A → A → Ordering) → List A → List A → Ordering
lex cmp [] [] = Ordering.eq
lex cmp [] (b ∷ m) = Ordering.gt
lex cmp (a ∷ l) [] = Ordering.lt
lex cmp (a ∷ l) (b ∷ m) = then (cmp a b) (lex cmp l m)

-- What the code answers for each outcome.
abbrev pub ordered : Ordering → Order
ordered Ordering.lt = Less
ordered Ordering.eq = Equal
ordered Ordering.gt = Greater
