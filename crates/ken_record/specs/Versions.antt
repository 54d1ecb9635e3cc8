-- The versions of a log. What a version may change takes it as an argument.
use Rattle.std.specs.Prelude.{ℕ}
use Rattle.ken_record.specs.declared.header.Header.{Header}

pub data Version : Type 0 where
  One : Version

-- the byte of a header that tells it
abbrev pub version_byte : Version → ℕ
version_byte One = 1

-- the version of the log that a header begins: there is one
abbrev pub version_of : Header → Version
version_of h = One

-- the most bytes of a record after its length
abbrev pub most_fields : Version → ℕ
most_fields One = 1081838

-- those whose messages a base counts: the nodes 0 to 7, and the outside
abbrev pub senders : Version → ℕ
senders One = 9
