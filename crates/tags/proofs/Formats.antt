-- An order is told by its truth value. Assumes nothing.
use mathlib.Core.Path.{◌≡◌, refl}
use Rattle.words.specs.declared.word.Order.{Order}
use Rattle.words.specs.declared.word.Order.TheVariants.{HighFirst, LowFirst}
use Rattle.words.specs.Word.{order_if}
use Rattle.tags.specs.Format.{low_order}

pub order_back : (o : Order) → order_if (low_order o) ≡ o
order_back HighFirst = refl
order_back LowFirst = refl
