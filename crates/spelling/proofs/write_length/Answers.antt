-- One octet below 240 and two from there on, each stored at its place.
use native.Mathlib.Omega.{arith}
use lib.ListN.{length-set}
use Rattle.spelling.proofs.WritingLaws.{room-short, room-long, write-short, write-long}
use Rattle.spelling.proofs.write_length.Goals as goal

pub bounds-buffer-0 : goal.bounds-buffer-0
bounds-buffer-0 c = room-short c.args.buffer.now _ c.requires.1 c.if-size-lt240.true

pub returns-then-size-lt240 : goal.returns-then-size-lt240
returns-then-size-lt240 c = write-short _ _ c.requires.1 c.if-size-lt240.true

pub bounds-buffer-0-2 : goal.bounds-buffer-0-2
bounds-buffer-0-2 c = omega (arith, room-long c.args.buffer.now c.args.size c.requires.1 c.if-size-lt240.false)

pub bounds-buffer-1 : goal.bounds-buffer-1
bounds-buffer-1 c = simp length-set (room-long c.args.buffer.now c.args.size c.requires.1 c.if-size-lt240.false)

pub shape_of-buffer : goal.shape_of-buffer
shape_of-buffer c = simp length-set

pub returns : goal.returns
returns c = write-long _ _ c.requires.1 c.if-size-lt240.false
