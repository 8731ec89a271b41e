-- The format of the sheet: one table of fields, by which it is tested, read and written. Assumes nothing.
use Rattle.std.specs.Prelude.{Bool, true, ◌&&◌, ◌||◌, cond, List, [], ◌∷◌, ◌++◌, ℕ, zero, suc, ◌+◌, eqb, leb, ltb, length}
use Rattle.std.proofs.lemmas.List.Edits.{sets}
use Rattle.words.specs.Word.{number_at, bytes_of}
use Rattle.words.specs.declared.word.Order.{Order}
use Rattle.words.specs.declared.word.Order.TheVariants.{HighFirst, LowFirst}
use Rattle.tags.specs.Format.{format_of}
use Rattle.tags.specs.declared.format.Profile.{Profile}
use Rattle.geometry.specs.declared.sheet.Sheet.{Sheet}

-- ---- the numbers and the bytes of a field

-- W1 (the numbers of a sheet have the highest byte first): the number of k bytes of a sheet, and its bytes
abbrev pub field_number : ℕ → List ℕ → ℕ → ℕ
field_number k s at = number_at HighFirst k s at

abbrev pub field_bytes : ℕ → ℕ → List ℕ
field_bytes k v = bytes_of HighFirst k v

-- ---- the table

-- S2 (a field's tag and the length of its body)
pub record Field : Type 0 where
  pub tag : ℕ
  pub len : ℕ

-- S2 (tags 1 to 8, in order, and their lengths): the fields of a sheet of the short form
abbrev pub short_fields : List Field
short_fields =
    record { tag = 1; len = 4 }
    ∷ record { tag = 2; len = 4 }
    ∷ record { tag = 3; len = 4 }
    ∷ record { tag = 4; len = 2 }
    ∷ record { tag = 5; len = 2 }
    ∷ record { tag = 6; len = 2 }
    ∷ record { tag = 7; len = 4 }
    ∷ record { tag = 8; len = 2 }
    ∷ []

-- S10 (tag 9, behind the others): the fields of a sheet of the long form
abbrev pub fields : List Field
fields = short_fields ++ (record { tag = 9; len = 1 } ∷ [])

-- S1 (tag, 1 byte; length, 2 bytes; body): how long a field is
abbrev pub field_length : Field → ℕ
field_length f = 3 + f.len

-- S1 (one behind the other): how long the first k fields are
abbrev pub length_to : ℕ → List Field → ℕ
length_to zero fs = 0
length_to (suc k) [] = 0
length_to (suc k) (f ∷ fs) = field_length f + length_to k fs

-- S1 (the short form has 48 bytes, the long form 52)
abbrev pub short_length : ℕ
short_length = length_to 8 fields

abbrev pub sheet_length : ℕ
sheet_length = length_to 9 fields

-- S2 (where the body stands), for the field behind k others
abbrev pub body_at : ℕ → ℕ
body_at k = length_to k fields + 3

-- ---- X1: the form

-- S1 (a field: tag, length, body): the field at an offset has a tag and a length
unfoldable pub field_is : List ℕ → ℕ → ℕ → ℕ → Bool
field_is s at tag len = eqb (field_number 1 s at) tag && eqb (field_number 2 s (at + 1)) len

-- S1 (one behind the other), from an offset on
abbrev pub fields_from : List Field → ℕ → List ℕ → Bool
fields_from [] at s = true
fields_from (f ∷ fs) at s = field_is s at f.tag f.len && fields_from fs (at + field_length f) s

-- S1 (the two forms): S2 (the fields of the short one), S10 (and of the long one)
unfoldable pub is_short : List ℕ → Bool
is_short s = eqb (length s) short_length && fields_from short_fields 0 s

unfoldable pub is_long : List ℕ → Bool
is_long s = eqb (length s) sheet_length && fields_from fields 0 s

-- S1 (one of the two forms): where this fails, X1
unfoldable pub shaped : List ℕ → Bool
shaped s = is_short s || is_long s

-- of the code's own steps, in no rule: behind the eight fields of both forms stands nothing, or the ninth
unfoldable pub ends_right : List ℕ → Bool
ends_right s = eqb (length s) short_length || (eqb (length s) sheet_length && field_is s short_length 9 1)

-- ---- the numbers

-- S10 (the number of the order): the body of tag 9; a sheet without it means 0
unfoldable pub order_number : List ℕ → ℕ
order_number s = cond (ltb (length s) sheet_length) 0 (field_number 1 s (body_at 8))

-- S10 (0 is the high byte first, 1 the low byte first): any other number has no order, X2
abbrev pub order_lawful : ℕ → Bool
order_lawful v = leb v 1

abbrev pub order_of : ℕ → Order
order_of v = cond (eqb v 0) HighFirst LowFirst

abbrev pub number_of : Order → ℕ
number_of HighFirst = 0
number_of LowFirst = 1

-- S2, S10 (the bodies), U1 (the profile is the caller's)
unfoldable pub sheet_of : Profile → List ℕ → Sheet
sheet_of p s = record {
  format = format_of p (order_of (order_number s));
  cache = field_number 4 s (body_at 0);
  heap_base = field_number 4 s (body_at 1);
  record_base = field_number 4 s (body_at 2);
  size = field_number 2 s (body_at 3);
  chunk = field_number 2 s (body_at 4);
  count = field_number 2 s (body_at 5);
  head = field_number 4 s (body_at 6);
  flags = field_number 2 s (body_at 7);
}

-- ---- the bytes

-- S1 (a field: tag, length, body), of the bytes of its body
abbrev pub field_of : ℕ → List ℕ → List ℕ
field_of tag body = field_bytes 1 tag ++ field_bytes 2 (length body) ++ body

-- and of a body that is one number
abbrev pub field : ℕ → ℕ → ℕ → List ℕ
field tag len body = field_bytes 1 tag ++ field_bytes 2 len ++ field_bytes len body

-- S1 (one behind the other), with their bodies
abbrev pub fields_bytes : List Field → List ℕ → List ℕ
fields_bytes [] bodies = []
fields_bytes (f ∷ fs) [] = []
fields_bytes (f ∷ fs) (b ∷ bodies) = field f.tag f.len b ++ fields_bytes fs bodies

-- S2 (the bodies, in order)
abbrev pub bodies_of : Sheet → List ℕ
bodies_of g =
    g.cache ∷ g.heap_base ∷ g.record_base ∷ g.size ∷ g.chunk ∷ g.count ∷ g.head ∷ g.flags ∷ number_of g.format.order ∷ []

-- S1, S2, S10 (the bytes of a sheet, which is written in the long form)
unfoldable pub sheet_bytes : Sheet → List ℕ
sheet_bytes g = fields_bytes fields (bodies_of g)

-- S2 (where the chain head stands): a sheet with another head
unfoldable pub with_head : List ℕ → ℕ → List ℕ
with_head s head = sets s (body_at 6) (field_bytes 4 head)
