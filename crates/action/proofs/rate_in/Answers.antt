-- The rate in a community: the mask leaves its last four octets.
use lib.Bits.{mask_lt, and_mask}
use Rattle.action.proofs.rate_in.Goals as goal

pub overflow_cast-single : goal.overflow_cast-single
overflow_cast-single c = record { fits = mask_lt c.args.community 32 }

pub returns : goal.returns
returns c = rw (← (and_mask c.args.community 32)) (cc)
