-- Each turn takes an octet at least; an input that led to what the buffers held leads, with what was taken of the block behind it, to what
-- they hold, and what that prints was written.
use Rattle.std.proofs.Common.{rules, arith, subst, sym, ◌+◌, ◌++◌, take}
use lib.Seq.{length-take-le}
use Rattle.std.specs.Io.KnownBytes.{Appends}
use Rattle.std.proofs.KnownBytes.{Appends-nil, Appends-trans}
use Rattle.lines.specs.Input.{program_octets}
use Rattle.lines.specs.Blocks.{LedBy}
use Rattle.lines.proofs.InputLaws.{block-first, block_on, block-answered}
use Rattle.line_program.proofs.TurnLaws.{text-none, Turn, turn_of, text-ended, text-open}
use Rattle.line_program.proofs.answer_block.Goals as goal

pub loop-at-init : goal.loop-at-init
loop-at-init g c = record {
  within = omega arith;
  led = λ input led. block-first program_octets input c.args.block.now _ _ _ _ _ led;
  written = λ input led. subst (Appends _ _) (sym (text-none _)) (Appends-nil _);
}

pub overflow_add-at : goal.overflow_add-at
overflow_add-at g c = let t : Turn c.args.block.now c.loop-at.line c.loop-at.at c.gather-part.result = turn_of _ _ _ _ _ _ _ c.gather-part.ensures c.loop-at-test.true in
    let w = t.within in
    search rules

pub slice_bounds-whole-end : goal.slice_bounds-whole-end
slice_bounds-whole-end g c = let t : Turn c.args.block.now c.loop-at.line c.loop-at.at c.gather-part.result = turn_of _ _ _ _ _ _ _ c.gather-part.ensures c.loop-at-test.true in omega arith

pub slice_bounds-whole-end-then-part : goal.slice_bounds-whole-end-then-part
slice_bounds-whole-end-then-part g c =
    let t : Turn c.args.block.now c.loop-at.line c.loop-at.at c.gather-part.result = turn_of _ _ _ _ _ _ _ c.gather-part.ensures c.loop-at-test.true in
    sym (length-take-le _ _ (omega arith))

pub loop-at-smaller-then-part : goal.loop-at-smaller-then-part
loop-at-smaller-then-part g c = let t : Turn c.args.block.now c.loop-at.line c.loop-at.at c.gather-part.result = turn_of _ _ _ _ _ _ _ c.gather-part.ensures c.loop-at-test.true in omega arith

pub loop-at-preserved-then-part : goal.loop-at-preserved-then-part
loop-at-preserved-then-part g c =
    let t : Turn c.args.block.now c.loop-at.line c.loop-at.at c.gather-part.result = turn_of _ _ _ _ _ _ _ c.gather-part.ensures c.loop-at-test.true in
    record {
      within = t.within;
      led = λ input led.
          subst (λ h. LedBy program_octets (input ++ take (c.loop-at.at + c.gather-part.result.taken) c.args.block.now) c.gather-part.new.line h c.in_ok-progress.progress.used c.answer.new.routes c.answer.new.table)
          (sym c.in_ok-progress.ensures.progress.0)
          (block-answered program_octets input _ _ _ _ _ _ _ (c.loop-at.invariant.led input led) _ _ _ c.gather-part.ensures c.if-part.true _ _ _ c.in_ok-progress.ensures.progress.1);
      written = λ input led.
          subst (Appends _ _)
          (text-ended _ _ _ _ _ _ _ c.gather-part.ensures program_octets input _ _ _ (c.loop-at.invariant.led input led) c.if-part.true)
          (Appends-trans _ _ _ _ _ (c.loop-at.invariant.written input led) c.in_ok-progress.ensures.written);
    }

pub loop-at-smaller : goal.loop-at-smaller
loop-at-smaller g c = let t : Turn c.args.block.now c.loop-at.line c.loop-at.at c.gather-part.result = turn_of _ _ _ _ _ _ _ c.gather-part.ensures c.loop-at-test.true in omega arith

pub loop-at-preserved : goal.loop-at-preserved
loop-at-preserved g c =
    let t : Turn c.args.block.now c.loop-at.line c.loop-at.at c.gather-part.result = turn_of _ _ _ _ _ _ _ c.gather-part.ensures c.loop-at-test.true in
    record {
      within = t.within;
      led = λ input led. block_on program_octets input _ _ _ _ _ _ _ (c.loop-at.invariant.led input led) _ _ _ c.gather-part.ensures c.if-part.false;
      written = λ input led.
          subst (Appends _ _)
          (text-open _ _ _ _ _ _ _ c.gather-part.ensures program_octets input _ _ _ (c.loop-at.invariant.led input led) c.if-part.false)
          (c.loop-at.invariant.written input led);
    }
