-- A record for where a list is read at no index. Assumes nothing.
use Rattle.rules.specs.declared.Motor.{Motor}

-- a record of zeros, which no motor has
abbrev pub blank : Motor
blank = record {
  settings = record { ops1 = 0; ops2 = 0; w = 0; u = 0 };
  status = record { mode = 0; sure = 0; position = 0; command = 0; end = 0; flags = 0; previous = 0 };
  sum = 0;
  output = record { state = 0; sum = 0 };
}
