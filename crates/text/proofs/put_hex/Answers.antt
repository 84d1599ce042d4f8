-- What is left to print gives the same at every turn, and nothing is left at the end.
use borrow.Author.Rules.{rules}
use mathlib.Core.Path.{refl, ap}
use native.Mathlib.Omega.{arith}
use lib.ListN.{drop_of_length-le}
use Rattle.text.specs.Hex.{hex_of}
use Rattle.text.proofs.HexLaws.{length-hex_of}
use Rattle.text.proofs.PrintLaws.{hex-more, put_all}
use Rattle.text.proofs.put_hex.Goals as goal

pub loop-octet-init : goal.loop-octet-init
loop-octet-init c = (omega (arith, length-hex_of c.args.s.now), search rules, search rules, refl, refl)

pub hex_digit-high-requires : goal.hex_digit-high-requires
hex_digit-high-requires c = omega (arith, c.type_inv.s c.loop-octet.octet-index)

pub loop-octet-preserved : goal.loop-octet-preserved
loop-octet-preserved c = (search rules, search rules, search rules, search rules, search (hex-more, rules))

pub returns : goal.returns
unfolding hex_of
returns c = let s = c.args.s.now in
    let none = ap hex_of (drop_of_length-le s {i = c.loop-octet.octet-index} (search rules)) in
    (put_all _ _ _ _ none c.loop-octet.invariant.4, omega (arith, length-hex_of s))
