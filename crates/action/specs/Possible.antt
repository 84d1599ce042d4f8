-- Which actions some communities could give, so that a table holds no others (01: "a rate no single gives is unsound").
use Rattle.std.specs.Prelude.{◌/◌, ◌^◌, Bool, ◌&&◌, ltb}
use Rattle.action.specs.declared.Actions.{Actions}
use Rattle.action.specs.Given.{allowed}
use Rattle.action.specs.Limit.{could_be_limit}
use Rattle.action.specs.Actions.{is_redirect}

-- Rates are numbers that some single gives with their notes, a marking has six bits, a redirect is a community of that type, and a
-- missing number is 0.
unfoldable pub could_be : Actions → Bool
could_be a =
    could_be_limit a.bytes && could_be_limit a.packets
    && allowed a.marking.present a.marking.number (ltb a.marking.number (2 ^ 6))
    && allowed a.redirect.present a.redirect.number (is_redirect (a.redirect.number / 2 ^ 48))
