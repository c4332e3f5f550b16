-- No text of a JSON value has a newline, so a reply has none before its end.
use Rattle.std.proofs.Common.{◌≡◌, ◌≢◌, ◌==◌, ◌||◌, ◌/◌, ◌%◌, ◌+◌, ℕ, zero, suc, List, [], ◌∷◌, ◌++◌, Bool, true, false, cond, refl, ap, sym, ◌∙◌, arith, nat_lt, decimal, pos, negsuc}
use Rattle.std.proofs.lemmas.Bool.{eqb-false, eqb-true, ne_eqb, true≢false}
use Rattle.std.proofs.lemmas.List.Elements.{All-nil, All-cons, All-append, All-head, All-tail}
use Rattle.std.specs.Char.{digit_char}
use Rattle.std.specs.Fmt.{digits, digits_onto, digit_glyph}
use Rattle.json.specs.Print.{escape_letter, escape_byte, escape, quoted}
use Rattle.serde_json.specs.Data.{Num, unsigned, negative, float, Data, null, boolean, number, string, array, object, Items, no_items, item, Members, no_members, member}
use Rattle.serde_json.specs.Written.{comma_if, number_text, items_text, members_text, compact_text}
use Rattle.road_format.specs.Cut.{newline, pieces_with_byte, pieces_of}
use Rattle.road_format.specs.CutLaws.{HasNoNewline}
use Rattle.road_format.specs.Replies.{data_of, reply}
use Rattle.road_format.specs.RepliesLaws.{RepliesAreLines}

-- a text contains no newline. This definition does not unfold, so that the text is taken from the claim about it.
IsPlain : List ℕ → Type 0
IsPlain text = HasNoNewline text

plain_cons : (x : ℕ) (xs : List ℕ) → x ≢ newline → IsPlain xs → IsPlain (x ∷ xs)
unfolding IsPlain
plain_cons x xs other plain = All-cons (λ byte. byte ≢ newline) x xs other plain

-- a byte that does not compute to a newline, followed by a text without a newline
behind : (x : ℕ) (xs : List ℕ) → (x == newline) ≡ false → IsPlain xs → IsPlain (x ∷ xs)
behind x xs other = plain_cons x xs (eqb-false x newline other)

plain_append : (xs ys : List ℕ) → IsPlain xs → IsPlain ys → IsPlain (xs ++ ys)
unfolding IsPlain
plain_append xs ys = All-append (λ byte. byte ≢ newline) xs ys

plain_nil : IsPlain []
unfolding IsPlain
plain_nil = All-nil (λ byte. byte ≢ newline)

-- a text without a newline, followed by a newline, is cut into this one line
pieces_with_byte-plain : (x : ℕ) (xs : List ℕ) → x ≢ newline → pieces_with_byte x (xs ∷ [], []) ≡ ((x ∷ xs) ∷ [], [])
pieces_with_byte-plain x xs other = rw (ne_eqb x newline other) refl

pieces_of-plain : (xs : List ℕ) → IsPlain xs → pieces_of (xs ++ newline ∷ []) ≡ (xs ∷ [], [])
unfolding IsPlain
pieces_of-plain [] plain = refl
pieces_of-plain (x ∷ xs) plain = ap (pieces_with_byte x) (pieces_of-plain xs (All-tail (λ byte. byte ≢ newline) x xs plain)) ∙ pieces_with_byte-plain x xs (All-head (λ byte. byte ≢ newline) x xs plain)

either : (xs ys : List ℕ) (b : Bool) → IsPlain xs → IsPlain ys → IsPlain (cond b xs ys)
either xs ys true one other = one
either xs ys false one other = other

-- ---- escapes

or_cases_of : (x : ℕ) (a b : Bool) → (x == 34) ≡ a → (x == 92) ≡ b → (a || b) ≡ true → x ≢ newline
or_cases_of x true b ha hb h e = eqb-false 34 newline refl (sym (eqb-true x 34 ha) ∙ e)
or_cases_of x false true ha hb h e = eqb-false 92 newline refl (sym (eqb-true x 92 hb) ∙ e)
or_cases_of x false false ha hb h e = cc

short : (a b c d e : Bool) → cond a 98 (cond b 102 (cond c 110 (cond d 114 (cond e 116 0)))) ≢ newline
short true b c d e = eqb-false 98 newline refl
short false true c d e = eqb-false 102 newline refl
short false false true d e = eqb-false 110 newline refl
short false false false true e = eqb-false 114 newline refl
short false false false false true = eqb-false 116 newline refl
short false false false false false = eqb-false 0 newline refl

letter_at : (x y : ℕ) (q : Bool) → (q ≡ true → x ≢ newline) → y ≢ newline → cond q x y ≢ newline
letter_at x y true quoted other = quoted refl
letter_at x y false quoted other = other

-- the letter of a short escape is not a newline
letter_plain : (x : ℕ) → escape_letter x ≢ newline
letter_plain x =
    letter_at x _ ((x == 34) || (x == 92)) (λ h. or_cases_of x (x == 34) (x == 92) refl refl h)
    (short (x == 8) (x == 12) (x == 10) (x == 13) (x == 9))

glyph : (d : ℕ) (b : Bool) → cond b (48 + d) (87 + d) ≢ newline
glyph d true h = absurd (omega (arith, h))
glyph d false h = absurd (omega (arith, h))

char_plain : (d : ℕ) → digit_char d ≢ newline
char_plain d = glyph d (nat_lt d 10)

-- a newline has a short escape
escaped : (x : ℕ) (a b : Bool) → nat_lt 0 (escape_letter x) ≡ a
    → IsPlain (cond a (92 ∷ escape_letter x ∷ []) (cond b (92 ∷ 117 ∷ 48 ∷ 48 ∷ digit_char (x / 16) ∷ digit_char (x % 16) ∷ []) (x ∷ [])))
escaped x true b h = behind 92 _ refl (plain_cons (escape_letter x) [] (letter_plain x) plain_nil)
escaped x false true h =
    behind 92 _ refl (behind 117 _ refl (behind 48 _ refl (behind 48 _ refl
    (plain_cons (digit_char (x / 16)) _ (char_plain (x / 16)) (plain_cons (digit_char (x % 16)) [] (char_plain (x % 16)) plain_nil)))))
escaped x false false h = plain_cons x [] (λ e. true≢false (sym (ap (λ y. nat_lt 0 (escape_letter y)) e) ∙ h)) plain_nil

escape_byte_plain : (x : ℕ) → IsPlain (escape_byte x)
unfolding escape_byte
escape_byte_plain x = escaped x (nat_lt 0 (escape_letter x)) (nat_lt x 32) refl

escape_plain : (xs : List ℕ) → IsPlain (escape xs)
escape_plain [] = plain_nil
escape_plain (x ∷ xs) = plain_append (escape_byte x) (escape xs) (escape_byte_plain x) (escape_plain xs)

quoted_plain : (xs : List ℕ) → IsPlain (quoted xs)
quoted_plain xs = behind 34 (escape xs ++ 34 ∷ []) refl (plain_append (escape xs) (34 ∷ []) (escape_plain xs) (behind 34 [] refl plain_nil))

digits_plain : (k n : ℕ) (acc : List ℕ) → IsPlain acc → IsPlain (digits_onto k 10 false n acc)
digits_plain zero n acc plain = plain
digits_plain (suc k) n acc plain =
    let more : IsPlain (digit_glyph false (n % 10) ∷ acc) = plain_cons (digit_glyph false (n % 10)) acc (glyph (n % 10) (nat_lt (n % 10) 10)) plain in
    either _ _ (n / 10 == 0) more (digits_plain k (n / 10) (digit_glyph false (n % 10) ∷ acc) more)

decimal_plain : (n : ℕ) → IsPlain (decimal n)
unfolding digits
decimal_plain n = digits_plain 64 n [] plain_nil

number_plain : (n : Num) → IsPlain (number_text n)
number_plain (unsigned n) = decimal_plain n
number_plain (negative (pos n)) = decimal_plain n
number_plain (negative (negsuc n)) = behind 45 _ refl (decimal_plain (suc n))
number_plain (float x) = plain_nil

-- ---- every value's text

null_plain : IsPlain (compact_text null)
null_plain = behind 110 _ refl (behind 117 _ refl (behind 108 _ refl (behind 108 [] refl plain_nil)))

boolean_plain : (b : Bool) → IsPlain (compact_text (boolean b))
boolean_plain true = behind 116 _ refl (behind 114 _ refl (behind 117 _ refl (behind 101 [] refl plain_nil)))
boolean_plain false = behind 102 _ refl (behind 97 _ refl (behind 108 _ refl (behind 115 _ refl (behind 101 [] refl plain_nil))))

behind_comma : (later : Bool) (xs : List ℕ) → IsPlain xs → IsPlain (comma_if later ++ xs)
behind_comma true xs plain = behind 44 xs refl plain
behind_comma false xs plain = plain

mutual
  text_plain : (d : Data) → IsPlain (compact_text d)
  text_plain null = null_plain
  text_plain (boolean b) = boolean_plain b
  text_plain (number n) = number_plain n
  text_plain (string s) = quoted_plain s
  text_plain (array ds) = behind 91 _ refl (items_plain false ds)
  text_plain (object ms) = behind 123 _ refl (members_plain false ms)

  items_plain : (later : Bool) (ds : Items) → IsPlain (items_text later ds)
  items_plain later no_items = behind 93 [] refl plain_nil
  items_plain later (item d ds) = behind_comma later _ (plain_append (compact_text d) _ (text_plain d) (items_plain true ds))

  members_plain : (later : Bool) (ms : Members) → IsPlain (members_text later ms)
  members_plain later no_members = behind 125 [] refl plain_nil
  members_plain later (member k d ms) =
      behind_comma later _ (plain_append (quoted k) _ (quoted_plain k) (behind 58 _ refl (plain_append (compact_text d) _ (text_plain d) (members_plain true ms))))

pub replies_are_lines : RepliesAreLines
unfolding reply
replies_are_lines answer = pieces_of-plain (compact_text (data_of answer)) (text_plain (data_of answer))
