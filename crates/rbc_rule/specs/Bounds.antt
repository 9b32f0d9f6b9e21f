-- The greatest numbers and stamps (own rule).
use Rattle.std.specs.Prelude.{ℕ}

-- R-REFUSE-9: the greatest number of enrolled trains
abbrev pub max_trains : ℕ
max_trains = 2000

-- R-REFUSE-13: the greatest number of active stops
abbrev pub max_stops : ℕ
max_stops = 64

-- R-REFUSE-13: the greatest number of active restrictions
abbrev pub max_limits : ℕ
max_limits = 300

-- the greatest code of a bad line
abbrev pub max_bad_code : ℕ
max_bad_code = 6

-- R-REFUSE-15: the greatest T_TRAIN of a message from a train, in units of 10 ms
abbrev pub max_stamp : ℕ
max_stamp = 4200000000
