-- What `?` hands on: the error that it met, as the function's own. Assumes nothing.
use Rattle.std.proofs.Common.{◌≡◌, ap, Result, Ok, Err, IsErrAnd}

-- an answer that is an error equal to one is that error
pub passed : {T E : Type 0} (r : Result T E) (e : E) → IsErrAnd r (λ y. y ≡ e) → r ≡ Err e
passed (Ok t) e h = absurd h
passed (Err x) e h = ap (λ y. Err y) h
