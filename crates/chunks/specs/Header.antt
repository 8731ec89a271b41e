-- The header of a sized grant, and what follows from its length. Assumes nothing.
use Rattle.std.specs.Prelude.{Bool, true, ◌&&◌, List, [], ◌++◌, ℕ, ◌+◌, ◌-◌, eqb, leb}
use Rattle.tags.specs.Format.{by_profile, word_bytes, word_at}
use Rattle.tags.specs.declared.format.Format.{Format}
use Rattle.tags.specs.declared.format.Profile.{Profile}

-- U3 (the header's length): none in the kernel's profile
unfoldable pub header_size : Profile → ℕ
header_size p = by_profile p 0 8

-- U4 (the coded size of a request), and the request of a coded size
abbrev pub coded_size : Profile → ℕ → ℕ
coded_size p q = q + header_size p

abbrev pub request_of : Profile → ℕ → ℕ
request_of p c = c - header_size p

-- U5 (the largest request) of a buffer of `size` bytes
abbrev pub request_most : Profile → ℕ → ℕ
request_most p size = size - header_size p

-- U6 (what the header's two words add up to)
abbrev pub header_sum : ℕ
header_sum = 0x3a10c000

-- U6 (the header's bytes: the coded size c, then 0x3a10c000 less c)
unfoldable pub header_bytes : Format → ℕ → List ℕ
header_bytes f c = by_profile f.profile [] (word_bytes f c ++ word_bytes f (header_sum - c))

-- V30 (the header is right): the coded size c is not below 9, and the first two words of the buffer are c and 0x3a10c000 less c
unfoldable pub header_right : Format → List ℕ → ℕ → Bool
header_right f buffer c = by_profile f.profile true (leb 9 c && (eqb (word_at f buffer 0) c && eqb (word_at f buffer 4) (header_sum - c)))
