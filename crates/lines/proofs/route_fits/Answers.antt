-- Past the 4,096 there is no room; else the buffer's length decides.
use Rattle.lines.proofs.ServeLaws.{fits_not, fits-by-length}
use Rattle.lines.proofs.route_fits.Goals as goal

pub returns-then-used : goal.returns-then-used
returns-then-used c = fits_not c.args.routes.now _ c.if-used.true

pub returns : goal.returns
returns c = fits-by-length c.args.routes.now _ c.if-used.false
