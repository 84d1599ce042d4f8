-- The families that there are have what every family has. Assumes nothing.
use mathlib.Core.Path.{◌≡◌, refl}
use native.Mathlib.Omega.{arith}
use Rattle.rule.specs.declared.Family.{Family}
use Rattle.rule.specs.declared.AddressFamily.{AddressFamily}
use Rattle.rule.specs.declared.AddressFamily.TheVariants.{Ipv4, Ipv6}
use Rattle.rule.specs.Family.{ipv4, ipv6, family_of, Fits}

pub ipv4-fits : Fits ipv4
ipv4-fits = record { narrow = omega arith; words = refl }

pub ipv6-fits : Fits ipv6
ipv6-fits = record { narrow = omega arith; words = refl }

pub fits : (which : AddressFamily) → Fits (family_of which)
fits Ipv4 = ipv4-fits
fits Ipv6 = ipv6-fits

-- the same of what `family_of` gives
pub chosen-fits : (which : AddressFamily) (family : Family) → family ≡ family_of which → Fits family
chosen-fits which family e = rw e (fits which)
