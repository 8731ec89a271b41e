-- A sheet that is written field by field, and read back; another head is another sheet. Assumes nothing.
use Rattle.std.specs.Prelude.{Ok}
use mathlib.Core.Path.{◌≡◌, refl, sym, ap, ◌∙◌}
use mathlib.Core.Bool.{Bool, true, false, ◌&&◌, ◌||◌, and_assoc, and-true as and_right, and-eq-true_iff, or-true}
use mathlib.Core.List.{List, [], ◌∷◌, ◌++◌, append_assoc, append-nil}
use Prim.Native.Nat.{ℕ, zero, suc, ◌+◌, ◌*◌, ◌%◌, ◌^◌, ◌≤◌, ◌<◌}
use native.Mathlib.Decide.{ℕ_discrete}
use native.Mathlib.Omega.{arith}
use borrow.Author.Tests.{eq-eqb, ne_eqb, eqb-true, le-ltb}
use lib.Arith.{digits_mod}
use lib.Dec.{eqb, lit<}
use lib.ListN.{length, length-append, get_or, set}
use lib.Seq.{sets, length-sets}
use borrow.Rule.Slice.PartMut.{put_mid}
use Rattle.words.specs.Word.{part, turned, number, number_at, bytes_of}
use Rattle.words.specs.Native.{low_bytes}
use Rattle.words.specs.declared.word.Order.{Order}
use Rattle.words.specs.declared.word.Order.TheVariants.{HighFirst, LowFirst}
use Rattle.words.proofs.Std.{written, read_1, read_2, read_low_4}
use Rattle.words.proofs.Numbers.{length_bytes_of, number_back}
use Rattle.words.proofs.Parts.{part_front, part_right, sets_mid, sets_right, sets_three, sets-whole}
use Rattle.sheet.specs.Fields.{Field, short_fields, fields, field_length, length_to, field_is, fields_from, is_short, is_long, shaped, ends_right, sheet_of}
use Rattle.sheet.specs.Fields.{field_bytes, field_of, field, fields_bytes, bodies_of, sheet_bytes, short_length, sheet_length, body_at, with_head}
use Rattle.sheet.specs.Fields.{order_number, order_of, order_lawful, number_of}
use Rattle.geometry.specs.Sheet.{headed, heap_length, records_length}
use Rattle.geometry.specs.Limits.{lawful}
use Rattle.sheet.specs.Opening.{measured, numbered, ordered, opened_of}
use Rattle.geometry.specs.declared.sheet.Sheet.{Sheet}

-- ---- tested

-- equal numbers have equal lowest bytes
lowest : (a b k m : ℕ) → a < 256 → b < 256 → k * 256 + a ≡ m * 256 + b → a ≡ b
lowest a b k m ha hb e = sym (digits_mod k ha) ∙ ap (λ (x : ℕ). x % 256) e ∙ digits_mod m hb

-- they are a tag and a length exactly where the number is made of these
three_same : (n a b c tag len : ℕ) → n ≡ a + 256 * b + 65536 * c → a < 256 → b < 256 → c < 256 → tag < 256 → len < 256
    → eqb n (tag + 65536 * len) ≡ eqb a tag && eqb (c + 256 * b) len
three_same n a b c tag len e ha hb hc ht hl = go (ℕ_discrete a tag) (ℕ_discrete (c + 256 * b) len)
  where
    go : Dec (a ≡ tag) → Dec (c + 256 * b ≡ len) → eqb n (tag + 65536 * len) ≡ eqb a tag && eqb (c + 256 * b) len
    go (yes p) (yes q) = rw (eq-eqb n (tag + 65536 * len) (omega arith), eq-eqb a tag p, eq-eqb (c + 256 * b) len q)
    go (yes p) (no q) =
        rw (
          ne_eqb n (tag + 65536 * len) (λ f. q (omega (arith, lowest b 0 c len hb (lit< tt) (omega arith)))),
          eq-eqb a tag p,
          ne_eqb (c + 256 * b) len q,
        )
    go (no p) d = rw (ne_eqb n (tag + 65536 * len) (λ f. p (lowest a tag (c * 256 + b) (len * 256) ha ht (omega arith))), ne_eqb a tag p)

-- the tag and the length of a field, by the number of its first four bytes
pub head_is : (l : List ℕ) (at x tag len : ℕ) → x ≡ number_at LowFirst 4 l at → at + 4 ≤ length l → ((i : ℕ) → get_or l i 0 < 256) → tag < 256 → len < 256
    → eqb (x % 16777216) (tag + 65536 * len) ≡ field_is l at tag len
unfolding field_is
head_is l at x tag len e h small ht hl =
    let a = get_or l at 0 in
    let b = get_or l (at + 1) 0 in
    let c = get_or l (at + 2) 0 in
    let all : x % 16777216 ≡ a + 256 * b + 65536 * c =
    rw (e, read_low_4 l at h) (omega (arith, small at, small (at + 1), small (at + 2), small (at + 3))) in
    let one : number_at HighFirst 1 l at ≡ a = read_1 l at (omega arith) in
    let third : get_or l (at + 1 + 1) 0 ≡ c = ap (λ (k : ℕ). get_or l k 0) (omega arith) in
    let two : number_at HighFirst 2 l (at + 1) ≡ c + 256 * b = rw (read_2 l (at + 1) (omega arith)) (omega arith) in
    rw (one, two) (three_same (x % 16777216) a b c tag len all (small at) (small (at + 1)) (small (at + 2)) ht hl)

-- eight tests in a row, as the code joins them and as the rule does
pub eight : {a b c d e f g h a' b' c' d' e' f' g' h' : Bool} → a ≡ a' → b ≡ b' → c ≡ c' → d ≡ d' → e ≡ e' → f ≡ f' → g ≡ g' → h ≡ h'
    → a && b && c && d && e && f && g && h ≡ a' && (b' && (c' && (d' && (e' && (f' && (g' && (h' && true)))))))
eight ea eb ec ed ee ef eg eh = rw (ea, eb, ec, ed, ee, ef, eg, eh) (simp (and_assoc, and_right))

-- a sheet has the eight fields, and behind them what one of the two forms has
either : (a b p q : Bool) → a && (p || (q && b)) ≡ (p && a) || (q && (a && b))
either true b true q = refl
either true b false q = refl
either false b true true = refl
either false b true false = refl
either false b false true = refl
either false b false false = refl

pub shaped_both : (s : List ℕ) → shaped s ≡ fields_from short_fields 0 s && ends_right s
unfolding shaped is_short is_long ends_right
shaped_both s =
    let nine : fields_from fields 0 s ≡ fields_from short_fields 0 s && field_is s short_length 9 1 = simp (and_assoc, and_right) in
    rw nine (sym (either (fields_from short_fields 0 s) (field_is s short_length 9 1) (eqb (length s) short_length) (eqb (length s) sheet_length)))

pub shaped_less : (s : List ℕ) → length s < short_length → shaped s ≡ false
unfolding shaped is_short is_long
shaped_less s h = rw (ne_eqb (length s) short_length (λ q. omega arith), ne_eqb (length s) sheet_length (λ q. omega arith))

-- which sheets have one of the two forms
pub ruleset shapes = (shaped_both, shaped_less)

-- a sheet of either form has the eight fields of the short one
pub shaped-long : (s : List ℕ) → shaped s ≡ true → short_length ≤ length s
unfolding shaped is_short is_long
shaped-long s e = go (is_short s) (is_long s) refl refl e
  where
    go : (a b : Bool) → is_short s ≡ a → is_long s ≡ b → a || b ≡ true → short_length ≤ length s
    go true b p q f = omega (arith, eqb-true (length s) short_length ((and-eq-true_iff _ _).0 p).0)
    go false true p q f = omega (arith, eqb-true (length s) sheet_length ((and-eq-true_iff _ _).0 q).0)
    go false false p q f = absurd (let z : ◌≡◌ {A = ℕ} 0 1 = cc in omega arith)

-- ---- written

length-field : (tag len body : ℕ) → length (field tag len body) ≡ 3 + len
length-field tag len body = simp (length-append, length_bytes_of) (omega arith)

-- a field is a tag, a length and a body in a row
pub field_run : (l a b y body : List ℕ) (at tag n m : ℕ) → a ≡ sets l at (field_bytes 1 tag) → b ≡ sets a (at + 1) (field_bytes 2 n)
    → y ≡ body → length body ≡ n → m ≡ n → at + 3 + n ≤ length l
    → put_mid (at + 3) m b y ≡ sets l at (field_of tag body)
field_run l a b y body at tag n m ea eb ey en em h =
    let long : length b ≡ length l = rw (eb, ea) (simp length-sets) in
    let e : put_mid (at + 3) m b y ≡ sets b (at + 3) body = rw ey (written (at + 3) m b body (em ∙ sym en) (omega arith)) in
    let two : b ≡ sets a (at + 1) (field_bytes 2 (length body)) = rw en eb in
    sets_three l (field_bytes 1 tag) (field_bytes 2 (length body)) body at (at + 1) (at + 3)
    (omega (arith, length_bytes_of HighFirst 1 tag)) (omega (arith, length_bytes_of HighFirst 2 (length body))) ea two e

-- a byte is the number of itself
pub one_byte : (v : ℕ) → v < 256 → v ∷ [] ≡ field_bytes 1 v
unfolding bytes_of turned low_bytes
one_byte v h = ap (λ (x : ℕ). x ∷ []) (omega arith)

-- the field of a number, by the bytes of the number
of_number : (tag len x : ℕ) (body : List ℕ) → body ≡ field_bytes len x → field_of tag body ≡ field tag len x
of_number tag len x body e = rw (e, length_bytes_of HighFirst len x)

-- three fields in a row
pub fields-run : (l : List ℕ) (at i j t u v w₁ w₂ w₃ x y z : ℕ) {p q r a b c : List ℕ} → at + (3 + w₁) ≡ i → i + (3 + w₂) ≡ j
    → p ≡ field_bytes w₁ x → q ≡ field_bytes w₂ y → r ≡ field_bytes w₃ z
    → a ≡ sets l at (field_of t p) → b ≡ sets a i (field_of u q) → c ≡ sets b j (field_of v r)
    → c ≡ sets l at (field t w₁ x ++ field u w₂ y ++ field v w₃ z)
fields-run l at i j t u v w₁ w₂ w₃ x y z {p} {q} {r} {a} {b} {c} ei ej ep eq er ea eb ec =
    sets_three l (field t w₁ x) (field u w₂ y) (field v w₃ z) at i j (omega (arith, length-field t w₁ x)) (omega (arith, length-field u w₂ y))
    (rw (of_number t w₁ x p ep) at ea) (rw (of_number u w₂ y q eq) at eb) (rw (of_number v w₃ z r er) at ec)

-- how long the fields of a table are
length_fields : (fs : List Field) (bs : List ℕ) → length bs ≡ length fs → length (fields_bytes fs bs) ≡ length_to (length fs) fs
length_fields [] bs e = refl
length_fields (f ∷ fs) [] e = absurd (omega arith)
length_fields (f ∷ fs) (b ∷ bs) e =
    let h = length_fields fs bs (omega arith) in
    omega (arith, length-append (field f.tag f.len b) (fields_bytes fs bs), length-field f.tag f.len b)

length-sheet : (g : Sheet) → length (sheet_bytes g) ≡ sheet_length
unfolding sheet_bytes
length-sheet g = length_fields fields (bodies_of g) refl

module _ (g : Sheet) where
  in_order :
      field 1 4 g.cache ++ field 2 4 g.heap_base ++ field 3 4 g.record_base
      ++ (field 4 2 g.size ++ field 5 2 g.chunk ++ field 6 2 g.count)
      ++ (field 7 4 g.head ++ field 8 2 g.flags ++ field 9 1 (number_of g.format.order))
      ≡ sheet_bytes g
  unfolding sheet_bytes
  in_order = simp (append_assoc, append-nil)

  -- three times three fields in a row are the sheet
  pub sheet-run : (l a b c : List ℕ) → length l ≡ sheet_length
      → a ≡ sets l 0 (field 1 4 g.cache ++ field 2 4 g.heap_base ++ field 3 4 g.record_base)
      → b ≡ sets a 21 (field 4 2 g.size ++ field 5 2 g.chunk ++ field 6 2 g.count)
      → c ≡ sets b 36 (field 7 4 g.head ++ field 8 2 g.flags ++ field 9 1 (number_of g.format.order))
      → c ≡ sheet_bytes g
  sheet-run l a b c len ea eb ec =
      let p = field 1 4 g.cache ++ field 2 4 g.heap_base ++ field 3 4 g.record_base in
      let q = field 4 2 g.size ++ field 5 2 g.chunk ++ field 6 2 g.count in
      let r = field 7 4 g.head ++ field 8 2 g.flags ++ field 9 1 (number_of g.format.order) in
      let lp : length p ≡ 21 = simp (length-append, length_bytes_of) in
      let lq : length q ≡ 15 = simp (length-append, length_bytes_of) in
      sets_three l p q r 0 21 36 (omega arith) (omega arith) ea eb ec
      ∙ ap (sets l 0) in_order
      ∙ sets-whole l (sheet_bytes g) (length-sheet g ∙ sym len)

-- ---- read back

-- a field before other bytes
module _ (t k b : ℕ) (rest : List ℕ) where
  apart : field t k b ++ rest ≡ field_bytes 1 t ++ (field_bytes 2 k ++ (field_bytes k b ++ rest))
  apart = simp append_assoc

  tag-part : part (field t k b ++ rest) 0 1 ≡ field_bytes 1 t
  tag-part = rw apart (part_front (field_bytes 1 t) _ 1 (length_bytes_of HighFirst 1 t))

  length_part : part (field t k b ++ rest) 1 2 ≡ field_bytes 2 k
  length_part =
      rw apart
      (part_right (field_bytes 1 t) _ 1 0 2 (omega (arith, length_bytes_of HighFirst 1 t)) ∙ part_front (field_bytes 2 k) _ 2 (length_bytes_of HighFirst 2 k))

  body_part : part (field t k b ++ rest) 3 k ≡ field_bytes k b
  body_part =
      rw apart
      (part_right (field_bytes 1 t) _ 3 2 k (omega (arith, length_bytes_of HighFirst 1 t))
      ∙ part_right (field_bytes 2 k) _ 2 0 k (omega (arith, length_bytes_of HighFirst 2 k))
      ∙ part_front (field_bytes k b) _ k (length_bytes_of HighFirst k b))

  -- another body
  body_set : (v : ℕ) → sets (field t k b ++ rest) 3 (field_bytes k v) ≡ field t k v ++ rest
  body_set v =
      let front = field_bytes 1 t ++ field_bytes 2 k in
      let l : length front ≡ 3 = simp (length-append, length_bytes_of) in
      ap (λ (s : List ℕ). sets s 3 (field_bytes k v)) (append_assoc front (field_bytes k b) rest)
      ∙ sets_mid front (field_bytes k b) rest (field_bytes k v) 3 l (length_bytes_of HighFirst k b ∙ sym (length_bytes_of HighFirst k v))
      ∙ sym (append_assoc front (field_bytes k v) rest)

body_back : (k : ℕ) (s : List ℕ) (at v : ℕ) → part s at k ≡ field_bytes k v → v < 256 ^ k → number_at HighFirst k s at ≡ v
unfolding number_at
body_back k s at v e h = ap (number HighFirst) e ∙ number_back HighFirst k v h

-- every tag and every length of a table can be written
abbrev Fitting : List Field → Type 0
Fitting [] = Unit {0}
Fitting (f ∷ fs) = (f.tag < 256) × (f.len < 65536) × Fitting fs

field_is_lem : (pre rest : List ℕ) (at t k b : ℕ) → length pre ≡ at → t < 256 → k < 65536 → field_is (pre ++ (field t k b ++ rest)) at t k ≡ true
unfolding field_is
field_is_lem pre rest at t k b e ht hk =
    let s = pre ++ (field t k b ++ rest) in
    let x = body_back 1 s at t (part_right pre _ at 0 1 (omega arith) ∙ tag-part t k b rest) ht in
    let y = body_back 2 s (at + 1) k (part_right pre _ (at + 1) 1 2 (omega arith) ∙ length_part t k b rest) hk in
    rw (eq-eqb _ _ x, eq-eqb _ _ y)

-- the fields of a table that are written have their tags and lengths
fields_are : (fs : List Field) (bs pre : List ℕ) (at : ℕ) → length pre ≡ at → Fitting fs → length bs ≡ length fs
    → fields_from fs at (pre ++ fields_bytes fs bs) ≡ true
fields_are [] bs pre at e ok eb = refl
fields_are (f ∷ fs) [] pre at e ok eb = absurd (omega arith)
fields_are (f ∷ fs) (b ∷ bs) pre at e ok eb =
    let w = field f.tag f.len b in
    let long : length (pre ++ w) ≡ at + field_length f = omega (arith, length-append pre w, length-field f.tag f.len b) in
    let here = field_is_lem pre (fields_bytes fs bs) at f.tag f.len b e ok.0 ok.1 in
    let rest = fields_are fs bs (pre ++ w) (at + field_length f) long ok.2 (omega arith) in
    rw here (ap (fields_from fs (at + field_length f)) (sym (append_assoc pre w (fields_bytes fs bs))) ∙ rest)

fitting : Fitting fields
fitting =
    let b : 1 < 65536 = omega arith in
    let s : 2 < 65536 = omega arith in
    let l : 4 < 65536 = omega arith in (
      omega arith,
      l,
      (
        omega arith,
        l,
        (
          omega arith,
          l,
          (omega arith, s, (omega arith, s, (omega arith, s, (omega arith, l, (omega arith, s, (omega arith, b, tt)))))),
        ),
      ),
    )

-- a sheet that is written has the long form
sheet-long : (g : Sheet) → is_long (sheet_bytes g) ≡ true
unfolding is_long sheet_bytes
sheet-long g = rw (eq-eqb _ _ (length-sheet g)) (fields_are fields (bodies_of g) [] 0 refl fitting refl)

pub sheet-shaped : (g : Sheet) → shaped (sheet_bytes g) ≡ true
unfolding shaped
sheet-shaped g = rw (sheet-long g, or-true (is_short (sheet_bytes g)))

-- the body of field k
abbrev len_of : ℕ → List Field → ℕ
len_of k [] = 0
len_of zero (f ∷ fs) = f.len
len_of (suc k) (f ∷ fs) = len_of k fs

-- it is read where it stands
body_read : (k : ℕ) (fs : List Field) (bs : List ℕ) → k < length fs → length bs ≡ length fs
    → part (fields_bytes fs bs) (length_to k fs + 3) (len_of k fs) ≡ field_bytes (len_of k fs) (get_or bs k 0)
body_read k [] bs h e = absurd (omega arith)
body_read k (f ∷ fs) [] h e = absurd (omega arith)
body_read zero (f ∷ fs) (b ∷ bs) h e = body_part f.tag f.len b (fields_bytes fs bs)
body_read (suc k) (f ∷ fs) (b ∷ bs) h e =
    let w = field f.tag f.len b in
    part_right w (fields_bytes fs bs) (field_length f + length_to k fs + 3) (length_to k fs + 3) (len_of k fs) (omega (arith, length-field f.tag f.len b))
    ∙ body_read k fs bs (omega arith) (omega arith)

-- and written there
body_written : (k : ℕ) (fs : List Field) (bs : List ℕ) (v : ℕ) → k < length fs → length bs ≡ length fs
    → sets (fields_bytes fs bs) (length_to k fs + 3) (field_bytes (len_of k fs) v) ≡ fields_bytes fs (set bs k v)
body_written k [] bs v h e = absurd (omega arith)
body_written k (f ∷ fs) [] v h e = absurd (omega arith)
body_written zero (f ∷ fs) (b ∷ bs) v h e = body_set f.tag f.len b (fields_bytes fs bs) v
body_written (suc k) (f ∷ fs) (b ∷ bs) v h e =
    let w = field f.tag f.len b in
    sets_right w (fields_bytes fs bs) (field_bytes (len_of k fs) v) (field_length f + length_to k fs + 3) (length_to k fs + 3)
    (omega (arith, length-field f.tag f.len b))
    ∙ ap (λ (r : List ℕ). w ++ r) (body_written k fs bs v (omega arith) (omega arith))

-- another head
pub sheet_head : (g : Sheet) (h : ℕ) → with_head (sheet_bytes g) h ≡ sheet_bytes (headed g h)
unfolding sheet_bytes with_head
sheet_head g h = body_written 6 fields (bodies_of g) h (omega arith) refl

-- the numbers of a sheet that its fields can hold
pub record Fits (g : Sheet) : Type 0 where
  pub cache : g.cache < 4294967296
  pub heap_base : g.heap_base < 4294967296
  pub record_base : g.record_base < 4294967296
  pub size : g.size < 65536
  pub chunk : g.chunk < 65536
  pub count : g.count < 65536
  pub head : g.head < 4294967296
  pub flags : g.flags < 65536

-- the number of an order
order_small : (o : Order) → number_of o < 256
order_small HighFirst = omega arith
order_small LowFirst = omega arith

order_back : (o : Order) → order_of (number_of o) ≡ o
order_back HighFirst = refl
order_back LowFirst = refl

order_lawful_lem : (o : Order) → order_lawful (number_of o) ≡ true
order_lawful_lem HighFirst = refl
order_lawful_lem LowFirst = refl

module _ (g : Sheet) where
  -- the body behind k others is read back
  back : (k : ℕ) → k < 9 → get_or (bodies_of g) k 0 < 256 ^ len_of k fields
      → number_at HighFirst (len_of k fields) (sheet_bytes g) (body_at k) ≡ get_or (bodies_of g) k 0
  unfolding sheet_bytes
  back k h small = body_back (len_of k fields) (sheet_bytes g) (body_at k) (get_or (bodies_of g) k 0) (body_read k fields (bodies_of g) h refl) small

  -- and the order by its number
  order_read : order_number (sheet_bytes g) ≡ number_of g.format.order
  unfolding order_number
  order_read = rw (le-ltb (length (sheet_bytes g)) sheet_length (omega (arith, length-sheet g))) (back 8 (omega arith) (order_small g.format.order))

  pub sheet_read : Fits g → sheet_of g.format.profile (sheet_bytes g) ≡ g
  unfolding sheet_of
  sheet_read f =
      rw (
        order_read,
        order_back g.format.order,
        back 0 (omega arith) f.cache,
        back 1 (omega arith) f.heap_base,
        back 2 (omega arith) f.record_base,
        back 3 (omega arith) f.size,
        back 4 (omega arith) f.chunk,
        back 5 (omega arith) f.count,
        back 6 (omega arith) f.head,
        back 7 (omega arith) f.flags,
      )

  -- and the image opens
  pub sheet-opens : (h r : ℕ) → Fits g → lawful g ≡ true → h ≡ heap_length g → r ≡ records_length g
      → opened_of g.format.profile (sheet_bytes g) h r ≡ Ok g
  unfolding opened_of ordered numbered measured
  sheet-opens h r f l eh er =
      rw (
        sheet-shaped g,
        order_read,
        order_lawful_lem g.format.order,
        sheet_read f,
        l,
        eq-eqb h (heap_length g) eh,
        eq-eqb r (records_length g) er,
      )
