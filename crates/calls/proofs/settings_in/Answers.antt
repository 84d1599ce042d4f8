-- On is any number but 0, as the definition tests it.
use mathlib.Core.Path.{refl}
use Rattle.calls.proofs.settings_in.Goals as goal

pub returns : goal.returns
returns c = refl
