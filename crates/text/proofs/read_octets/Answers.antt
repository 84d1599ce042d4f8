-- What is left to read gives the same at every turn, and nothing is left at the end.
use native.Mathlib.Omega.{arith}
use mathlib.Core.Path.{◌≡◌, ap, ◌∙◌}
use mathlib.Core.List.{◌++◌}
use lib.ListN.{length}
use Rattle.std.specs.Slice.Iter.{chunks_exact_rest}
use Rattle.text.proofs.HexLaws.{length-octets_in, octets-count, octets-none}
use Rattle.text.proofs.PrintLaws.{read_more, put_all}
use Rattle.text.proofs.read_octets.Goals.{In-Some}
use Rattle.text.proofs.read_octets.Goals as goal

-- the two digits that come off the front
cut : (c : In-Some) → chunks_exact_rest c.loop-pair.pair-iterator ≡ c.in-Some.pair.now ++ chunks_exact_rest c.next.new.self
cut c = c.in-Some.ensures.steps.1.0

two : (c : In-Some) → length c.in-Some.pair.now ≡ 2
two c = c.in-Some.ensures.steps.1.1 ∙ c.loop-pair.invariant.0

pub put_octet-count-requires : goal.put_octet-count-requires
put_octet-count-requires c =
    let k = (goal.at.put_octet-count-requires c).In-Some in
    omega (arith, c.loop-pair.invariant.1, octets-count _ _ _ (cut k) (two k), length-octets_in c.args.text.now)

pub loop-pair-preserved : goal.loop-pair-preserved
loop-pair-preserved c =
    let k = (goal.at.loop-pair-preserved c).In-Some in
    let l = c.loop-pair.invariant in
    let put = c.put_octet-count.ensures in (
      k.in-Some.ensures.steps.0 ∙ l.0,
      omega (arith, l.1, put.1, octets-count _ _ _ (cut k) (two k)),
      read_more _ _ _ _ _ _ _ _ _ _ (cut k) (two k) l.2 c.hex_value.ensures.0 c.hex_value-in-loop-pair.ensures.0 put.0 put.1,
    )

pub returns : goal.returns
returns c =
    let l = c.loop-pair.invariant in
    let none = octets-none (chunks_exact_rest c.loop-pair.pair-iterator) (omega (arith, l.0, c.in-None.ensures.steps)) in
    (put_all _ _ _ _ none l.2, omega (arith, l.1, ap length none))
