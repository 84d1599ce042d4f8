-- What was read leads to what the buffers hold, and what it prints was written; at the end of the input that is all of it.
use Rattle.std.proofs.Common.{rules, arith, ℕ, ◌-◌, ◌^◌, ◌<◌, List, IfSome, [], ◌++◌, length, take, length-take, subst, sym}
use Rattle.std.specs.Io.KnownBytes.{Appends}
use Rattle.std.proofs.KnownBytes.{Consumes-nil, Consumes-trans, Appends-nil, Appends-trans}
use Rattle.std.proofs.lemmas.Result.{on_ok_weaker}
use Rattle.lines.specs.Input.{program_octets, output_of}
use Rattle.lines.specs.Blocks.{standing_after, end_text}
use Rattle.lines.proofs.InputLaws.{led-first}
use Rattle.line_program.proofs.TurnLaws.{text-none, text-append}
use Rattle.line_program.proofs.EndLaws.{longer, too-short, all-read, all-written}
use Rattle.line_program.proofs.run.Goals as goal

pub loop-turn-init : goal.loop-turn-init
loop-turn-init g c =
    ([], search rules, led-first program_octets _ _ _ c.requires.line c.requires.state, Consumes-nil _, subst (Appends _ _) (sym (text-none _)) (Appends-nil _))

pub returns-then-ended-clause-written : goal.returns-then-ended-clause-written
returns-then-ended-clause-written g c =
    let (input, turns, led, read, written) = c.loop-turn.invariant in
    let last = rw c.in_ok-count.ensures at c.read.ensures.bytes in
    let all = λ (t : List ℕ). length t < 2 ^ 64 - 1 → Appends (g.W.Write.contents c.args.writer.now) (g.W.Write.contents c.answer_rest.new.writer) (output_of program_octets t) in
    on_ok_weaker
    {P = Appends (g.W.Write.contents c.loop-turn.writer) (g.W.Write.contents c.answer_rest.new.writer) (end_text (standing_after program_octets input))}
    {Q = IfSome (g.R.Read.remaining c.args.reader.now) all}
    c.answer_rest.result
    (λ ends. all-read _ _ _ input _ _ all read last.0 c.if-ended.true (last.1 c.if-ended.true (search rules)) (λ _. all-written program_octets input _ _ _ written ends))
    (c.answer_rest.ensures.written input led)

pub loop-turn-preserved : goal.loop-turn-preserved
loop-turn-preserved g c =
    let (input, turns, led, read, written) = c.loop-turn.invariant in
    let more = rw c.in_ok-count.ensures at c.read.ensures.bytes in (
      input ++ take c.in_ok-count.count c.read.new.buf,
      longer input (take c.in_ok-count.count c.read.new.buf) _ turns (simp length-take (omega arith)),
      c.in_ok-progress.ensures.led input led,
      Consumes-trans _ _ _ _ _ read more.0,
      subst (Appends _ _) (sym (text-append _ _ _)) (Appends-trans _ _ _ _ _ written (c.in_ok-progress.ensures.written input led)),
    )

pub returns : goal.returns
returns g c =
    let (input, turns, led, read, written) = c.loop-turn.invariant in
    record {
      state = too-short _ _ _ input _ read (omega arith);
      written = too-short _ _ _ input _ read (omega arith);
    }
