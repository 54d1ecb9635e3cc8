-- How each part of an item is spelled in bytes.
use Rattle.std.specs.Prelude.{ℕ, List, ◌++◌, length}
use Rattle.std.specs.List.{flat_map}
use Rattle.byteorder.specs.Endian.{big_bytes}
use Rattle.ken_model.specs.declared.messages.Out.{Out}
use Rattle.ken_record.specs.declared.due.Due.{Due}
use Rattle.ken_record.specs.declared.sent.Sent.{Sent}
use Rattle.ken_record.specs.declared.page.Page.{Page}
use Rattle.ken_record.specs.declared.header.Header.{Header}
use Rattle.ken_record.specs.declared.base.Base.{Base}
use Rattle.ken_record.specs.declared.record.Record.{Record}
use Rattle.ken_record.specs.Versions.{Version, One, version_byte, version_of}

-- a number in w bytes, the highest first
unfoldable pub number : ℕ → ℕ → List ℕ
number w n = big_bytes w n

-- two bytes of length, and the bytes
abbrev pub text : List ℕ → List ℕ
text bytes = number 2 (length bytes) ++ bytes

-- a count of w bytes, and each item
abbrev pub counted : {A : Type 0} → ℕ → (A → List ℕ) → List A → List ℕ
counted w spell items = number w (length items) ++ flat_map spell items

abbrev pub sent : Sent → List ℕ
sent s = number 1 s.to ++ (number 8 s.number ++ text s.bytes)

abbrev pub due : Due → List ℕ
due m = number 1 m.to ++ (number 8 m.number ++ (number 8 m.stamp ++ text m.bytes))

abbrev pub out : Out → List ℕ
out o = number 8 o.number ++ text o.text

abbrev pub page : Page → List ℕ
page p = number 4 p.page ++ p.bytes

-- the first four fields of a record
abbrev pub origin : Record → List ℕ
origin r = number 8 r.turn ++ (number 8 r.stamp ++ (number 1 r.from ++ number 8 r.number))

-- its four lists
abbrev pub lists : Record → List ℕ
lists r = counted 1 (number 8) r.draws ++ (counted 1 sent r.sends ++ (counted 1 out r.outs ++ counted 2 page r.pages))

abbrev pub fields : Version → Record → List ℕ
fields One r = origin r ++ lists r

-- the number of bytes of the fields, and the fields
abbrev pub record_bytes : Version → Record → List ℕ
record_bytes v r = number 4 (length (fields v r)) ++ fields v r

-- the stamp of a base, and what was consumed, sent and output
abbrev pub counts : Base → List ℕ
counts b = number 8 b.stamp ++ (flat_map (number 8) b.consumed ++ (flat_map (number 8) b.sent ++ number 8 b.outputs))

-- its three lists
abbrev pub kept : Base → List ℕ
kept b = counted 4 due b.messages ++ (counted 4 out b.outs ++ counted 2 page b.pages)

abbrev pub base_bytes : Version → Base → List ℕ
base_bytes One b = counts b ++ kept b

-- the name KENL and the version
abbrev pub mark : Version → List ℕ
mark v = number 4 0x4b45_4e4c ++ number 1 (version_byte v)

abbrev pub place : Header → List ℕ
place h = number 1 h.node ++ (number 1 h.nodes ++ (number 4 h.pages ++ number 4 h.generation))

-- what came before this log, and a zero
abbrev pub past : Header → List ℕ
past h = number 8 h.turns ++ (number 4 h.base_len ++ number 4 0)

abbrev pub header_bytes : Header → List ℕ
header_bytes h = mark (version_of h) ++ (place h ++ past h)
