-- The arrays of routes and of the table are the first state.
use Rattle.std.proofs.Common.{◌≡◌, refl}
use lib.ListN.{replicate}
use Rattle.lines.specs.Serve.{most_words}
use Rattle.lines.specs.Input.{state_of, program_octets, first_state}
use Rattle.line_program.proofs.main.Goals as goal

first-is : state_of 0 (replicate most_words 0) (replicate program_octets 0) ≡ first_state program_octets
unfolding first_state
first-is = refl

pub run-requires-clause-state : goal.run-requires-clause-state
run-requires-clause-state c = first-is
