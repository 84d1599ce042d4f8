-- What the call promises, for IPv6.
use Rattle.c_api.proofs.flowspec6_withdraw.Goals as goal

pub returns : goal.returns
returns c = c.withdraw.ensures
