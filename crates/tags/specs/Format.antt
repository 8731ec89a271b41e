-- How an image writes its words, and by which rules it was made. Assumes nothing.
use Rattle.std.specs.Prelude.{Bool, true, false, cond, List, ℕ}
use Rattle.words.specs.Word.{bytes_of, number_at, order_if}
use Rattle.words.specs.declared.word.Order.{Order}
use Rattle.words.specs.declared.word.Order.TheVariants.{HighFirst, LowFirst}
use Rattle.tags.specs.declared.format.Format.{Format}
use Rattle.tags.specs.declared.format.Profile.{Profile}
use Rattle.tags.specs.declared.format.Profile.TheVariants.{Kernel, Userland}

-- U1 (the profile of an image, which the caller names), W5 (an image has one order)
abbrev pub format_of : Profile → Order → Format
format_of p o = record { profile = p; order = o }

-- U1 (userland, or kernel) by a truth value
abbrev pub profile_if : Bool → Profile
profile_if userland = cond userland Userland Kernel

abbrev pub format_if : Bool → Bool → Format
format_if userland low = format_of (profile_if userland) (order_if low)

abbrev pub low_order : Order → Bool
low_order HighFirst = false
low_order LowFirst = true

abbrev pub is_low : Format → Bool
is_low f = low_order f.order

-- U1 (what differs between the profiles): the one for the kernel's, or the one for userland's
abbrev pub by_profile : {A : Type 0} → Profile → A → A → A
by_profile Kernel kernel userland = kernel
by_profile Userland kernel userland = userland

-- W2, W5 (a word has four bytes, in the order of its image)
abbrev pub word_bytes : Format → ℕ → List ℕ
word_bytes f w = bytes_of f.order 4 w

abbrev pub word_at : Format → List ℕ → ℕ → ℕ
word_at f l at = number_at f.order 4 l at
