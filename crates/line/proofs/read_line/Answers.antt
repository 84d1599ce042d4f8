-- A line that is too long is another line; any other is what the fields behind its first word say.
use mathlib.Core.Path.{sym, ◌∙◌}
use native.Mathlib.Omega.{arith}
use lib.Seq.{length-take-le}
use Rattle.line.proofs.ReadLaws.{line-long, line-is, line_other}
use Rattle.line.proofs.read_line.Goals as goal

pub returns-then-line-gt-MOST_SIGNS : goal.returns-then-line-gt-MOST_SIGNS
returns-then-line-gt-MOST_SIGNS c = line-long _ c.if-line-gt-MOST_SIGNS.true

pub slice_bounds-word-end : goal.slice_bounds-word-end
slice_bounds-word-end c = sym (length-take-le _ _ (omega arith))

pub returns-then-same_octets : goal.returns-then-same_octets
returns-then-same_octets c = line-is _ c.if-line-gt-MOST_SIGNS.false _ c.field_end-end.ensures.0 _ _ c.same_octets.ensures c.if-same_octets.true _ c.read_route.ensures

pub returns-then-same_octets-2 : goal.returns-then-same_octets-2
returns-then-same_octets-2 c = line-is _ c.if-line-gt-MOST_SIGNS.false _ c.field_end-end.ensures.0 _ _ c.same_octets-2.ensures c.if-same_octets-2.true _ c.read_announce.ensures

pub returns-then-same_octets-3 : goal.returns-then-same_octets-3
returns-then-same_octets-3 c = line-is _ c.if-line-gt-MOST_SIGNS.false _ c.field_end-end.ensures.0 _ _ c.same_octets-3.ensures c.if-same_octets-3.true _ c.read_withdraw.ensures

pub returns-then-same_octets-4 : goal.returns-then-same_octets-4
returns-then-same_octets-4 c = line-is _ c.if-line-gt-MOST_SIGNS.false _ c.field_end-end.ensures.0 _ _ c.same_octets-4.ensures c.if-same_octets-4.true _ c.read_list.ensures

pub returns : goal.returns
returns c =
    line_other _ c.if-line-gt-MOST_SIGNS.false _ c.field_end-end.ensures.0 (sym c.same_octets.ensures ∙ c.if-same_octets.false) (sym c.same_octets-2.ensures ∙ c.if-same_octets-2.false) (sym c.same_octets-3.ensures ∙ c.if-same_octets-3.false) (sym c.same_octets-4.ensures ∙ c.if-same_octets-4.false)
