-- Records: two bytes of length, which counts the four bytes of the header, a type, a data type, the data.
use Rattle.std.specs.Prelude.{ℕ, zero, suc, ◌≡◌, ◌+◌, ◌*◌, ◌%◌, ◌<◌, ◌==◌, ◌||◌, nat_lt}
use Rattle.std.specs.Prelude.{List, [], ◌∷◌, ◌++◌, length, get_or, slice_range, drop, Result, Ok, Err, if◌then◌else◌}
use Rattle.std.specs.Int.{w16, to_be_bytes}
use Rattle.gds_record.specs.declared.record.GdsRec.{GdsRec}
use Rattle.gds_record.specs.declared.record.RecFault.{RecFault}
use Rattle.gds_record.specs.declared.record.RecFault.TheVariants.{Cut, Length}
use Rattle.gds_record.specs.declared.types.RecordType.{RecordType}
use Rattle.gds_record.specs.Types.{number_of, data_type_of, data_number_of}

-- a record as it is meant, wherever it is
pub record Raw : Type 0 where
  pub code : ℕ
  pub form : ℕ
  pub content : List ℕ

-- a record of the table
abbrev pub raw : RecordType → List ℕ → Raw
raw kind content = record { code = number_of kind; form = data_number_of (data_type_of kind); content = content }

-- its length fits the two bytes, and is even
pub record IsRaw (r : Raw) : Type 0 where
  pub short : length r.content + 4 < 65536
  pub even : (length r.content + 4) % 2 ≡ 0

-- its bytes
unfoldable pub spelled : Raw → List ℕ
spelled r = to_be_bytes w16 (length r.content + 4) ++ (r.code ∷ r.form ∷ r.content)

-- the bytes of records, one after the other
abbrev pub spelling : List Raw → List ℕ
spelling [] = []
spelling (r ∷ rs) = spelled r ++ spelling rs

-- the length that is written at a place
abbrev pub size_at : List ℕ → ℕ → ℕ
size_at bytes at = 256 * get_or bytes at 0 + get_or bytes (at + 1) 0

-- the record at a place, or the first fault there
abbrev pub record_at : List ℕ → ℕ → Result GdsRec RecFault
record_at bytes at =
    if nat_lt (length bytes) (at + 4) then Err (Cut at) else
    if nat_lt (length bytes) (at + size_at bytes at) then Err (Cut at) else
    if nat_lt (size_at bytes at) 4 || size_at bytes at % 2 == 1 then Err (Length at) else
    Ok (record {
      at = at;
      code = get_or bytes (at + 2) 0;
      form = get_or bytes (at + 3) 0;
      next = at + size_at bytes at;
    })

-- a record of a file: its place, the place after it, and its data
pub record Item : Type 0 where
  pub at : ℕ
  pub code : ℕ
  pub form : ℕ
  pub content : List ℕ
  pub next : ℕ

abbrev pub item_of : List ℕ → GdsRec → Item
item_of bytes r = record {
  at = r.at;
  code = r.code;
  form = r.form;
  content = slice_range bytes (r.at + 4) r.next;
  next = r.next;
}

-- records one after the other, and why no other record follows them
pub record Stream : Type 0 where
  pub items : List Item
  pub fault : RecFault

abbrev pub with_record : List ℕ → Result GdsRec RecFault → (ℕ → Stream) → Stream
with_record bytes (Err f) rest = record { items = []; fault = f }
with_record bytes (Ok r) rest = record { items = item_of bytes r ∷ (rest r.next).items; fault = (rest r.next).fault }

-- at most N records from a place on
unfoldable pub walk : ℕ → List ℕ → ℕ → Stream
walk zero bytes at = record { items = []; fault = Cut at }
walk (suc n) bytes at = with_record bytes (record_at bytes at) (λ next. walk n bytes next)

-- all records from a place on; each takes a byte at least, so these steps are enough
abbrev pub records_from : List ℕ → ℕ → Stream
records_from bytes at = walk (suc (length bytes)) bytes at

abbrev pub items_from : List ℕ → ℕ → List Item
items_from bytes at = (records_from bytes at).items

-- the record at its place
abbrev pub item : ℕ → Raw → Item
item at r = record { at = at; code = r.code; form = r.form; content = r.content; next = at + (length r.content + 4) }

-- records one after the other, from a place on, and the place after them
abbrev pub placed : ℕ → List Raw → List Item
placed at [] = []
placed at (r ∷ rs) = item at r ∷ placed (at + (length r.content + 4)) rs

abbrev pub ends : ℕ → List Raw → ℕ
ends at [] = at
ends at (r ∷ rs) = ends (at + (length r.content + 4)) rs

-- numbers that are bytes
abbrev pub IsBytes : List ℕ → Type 0
IsBytes bytes = (i : ℕ) → get_or bytes i 0 < 256

-- the record at a place, as it is meant
abbrev pub raw_at : List ℕ → GdsRec → Raw
raw_at bytes r = record { code = r.code; form = r.form; content = slice_range bytes (r.at + 4) r.next }

-- A record that is read is spelled there, whole.
pub record IsSpelled (bytes : List ℕ) (at : ℕ) (r : GdsRec) : Type 0 where
  pub raw : IsRaw (raw_at bytes r)
  pub is : drop at bytes ≡ spelled (raw_at bytes r) ++ drop r.next bytes
