-- Two worked inputs of the program. In the first the routes change between announcements of one rule: no route covers its destination, then
-- one does, and then a more specific one has another neighbour AS; its rate is minus one. The second is 01's printed example.
use Rattle.std.specs.Prelude.{List, ◌++◌, ℕ}
use Rattle.text.specs.Spelling.{quoted}

-- Mail to 192.0.2.0/24, announced by 7, to be dropped.
abbrev pub announced : List ℕ
announced = quoted "announce\t0b0118c00002038106048119\t7\t8006000000000000\n"

-- The same by a rate of minus one.
abbrev pub announced_negative : List ℕ
announced_negative = quoted "announce\t0b0118c00002038106048119\t7\t80060000bf800000\n"

-- 192.0.2.0/24 is routed to 7, over neighbour AS 64500.
abbrev pub routed : List ℕ
routed = quoted "route\tc0000200\t24\t7\t64500\n"

-- 192.0.2.128/25 is routed to 7, over another neighbour AS.
abbrev pub disputed : List ℕ
disputed = quoted "route\tc0000280\t25\t7\t64501\n"

-- The table is listed.
abbrev pub listed : List ℕ
listed = quoted "list\n"

-- What a list of the table with mail prints. 01's record as 2026-05 amends it: 47 octets, and 58 zero digits stand between 0701 and 0118.
abbrev pub mail_listed : List ℕ
mail_listed = quoted "rules\t1\nrule\t000b000000070100000000000000000000000000000000000000000000000000000000000118c00002038106048119\n"

-- The same of the rate of minus one: its note, taken as zero, stands behind the redirect.
abbrev pub negative_listed : List ℕ
negative_listed = quoted "rules\t1\nrule\t000b000000070100000000000000000000000000000000000000000000000000040000000118c00002038106048119\n"

-- The first input: mail is announced before any route, behind the first and behind the second, and then withdrawn; the last line lacks its LF.
abbrev pub rerouting : List ℕ
rerouting =
    announced_negative ++ routed ++ announced_negative ++ listed ++ disputed ++ announced_negative ++ listed
    ++ quoted "withdraw\t0b0118c00002038106048119"

-- What it prints.
abbrev pub rerouting_printed : List ℕ
rerouting_printed =
    quoted "answer\t8\n" ++ quoted "answer\t0\n" ++ negative_listed ++ quoted "answer\t8\n" ++ quoted "rules\t0\n" ++ quoted "answer\t14\n"

-- 01's example, and what it prints.
abbrev pub printed_example : List ℕ
printed_example = routed ++ announced ++ listed

abbrev pub example_printed : List ℕ
example_printed = quoted "answer\t0\n" ++ mail_listed
