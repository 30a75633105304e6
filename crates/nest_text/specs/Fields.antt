-- A number in six columns: spaces, an optional minus, digits; no leading zero, no minus zero.
-- Assumes nothing.
use Rattle.std.specs.Prelude.{Bool, true, ◌&&◌, cond, List, [], ◌∷◌, ◌++◌, ℕ, zero, suc, ◌+◌, ◌*◌, ◌-◌, ◌/◌, ◌%◌, leb}
use Rattle.std.specs.Prelude.{ltb, eqb, ℤ, pos, negsuc, neg_ℤ, length, get_or, drop, replicate}
use Rattle.std.specs.Prelude.{Option, Some, None}
use Rattle.std.specs.Int.Signed.{le_z}

-- a text, or a part of one: each byte is its number
abbrev pub Bytes : Type 0
Bytes = List ℕ

-- the columns of a field, one byte each
abbrev pub columns : ℕ
columns = 6

-- the byte that ends a line
abbrev pub newline : ℕ
newline = 10

-- the byte before a number that has fewer digits than columns
abbrev pub space : ℕ
space = 32

-- the byte before the digits of a negative number
abbrev pub minus : ℕ
minus = 45

-- the byte of the digit 0; those of 1 to 9 follow it
abbrev pub zero_digit : ℕ
zero_digit = 48

-- the byte of the digit 9
abbrev pub nine_digit : ℕ
nine_digit = 57

-- the least number that six columns hold, a minus and five digits: -99999
abbrev pub least_number : ℤ
least_number = negsuc 99998

-- the greatest, six digits
abbrev pub greatest_number : ℤ
greatest_number = pos 999999

-- the first number behind it, which has seven digits
abbrev pub seven_digits : ℕ
seven_digits = 1000000

-- ---- reading

-- the byte is one of the digits 0 to 9
abbrev pub is_digit : ℕ → Bool
is_digit b = leb zero_digit b && leb b nine_digit

-- how many spaces come first
unfoldable pub blanks_of : Bytes → ℕ
blanks_of [] = 0
blanks_of (b ∷ l) = cond (eqb b space) (blanks_of l + 1) 0

-- each byte is a digit
unfoldable pub all_digits : Bytes → Bool
all_digits [] = true
all_digits (b ∷ l) = is_digit b && all_digits l

-- the number that the digits say, behind digits that say a
unfoldable pub value_of : ℕ → Bytes → ℕ
value_of a [] = a
value_of a (b ∷ l) = value_of (a * 10 + (b - zero_digit)) l

-- one digit, or the first is no 0
abbrev pub no_leading_zero : Bytes → Bool
no_leading_zero l = cond (eqb (get_or l 0 0) zero_digit) (eqb (length l) 1) true

-- what a run of digits says: its value, where there is a digit, no leading zero and no other byte
unfoldable pub digits_of : Bytes → Option ℕ
digits_of l = cond ((ltb 0 (length l) && no_leading_zero l) && all_digits l) (Some (value_of 0 l)) None

-- digits with no minus before them
abbrev pub plain : Option ℕ → Option ℤ
plain (Some n) = Some (pos n)
plain None = None

-- digits behind a minus; minus zero is no number
abbrev pub negative : Option ℕ → Option ℤ
negative (Some n) = cond (eqb n 0) None (Some (neg_ℤ (pos n)))
negative None = None

-- what stands behind the spaces: an optional minus, digits
unfoldable pub signed_of : Bytes → Option ℤ
signed_of l = cond (eqb (get_or l 0 0) minus) (negative (digits_of (drop 1 l))) (plain (digits_of l))

-- what the bytes of a field say
unfoldable pub read_of : Bytes → Option ℤ
read_of l = signed_of (drop (blanks_of l) l)

-- ---- writing

-- the number is at least the one and at most the other
abbrev pub within : ℤ → ℤ → ℤ → Bool
within lo hi x = le_z lo x && le_z x hi

-- the digits of n, of which there are at most f, before the bytes acc
unfoldable pub digits_to : ℕ → ℕ → Bytes → Bytes
digits_to zero n acc = acc
digits_to (suc f) n acc =
    cond (ltb n 10) ((zero_digit + n) ∷ acc) (digits_to f (n / 10) ((zero_digit + n % 10) ∷ acc))

-- the number as it is written, with no space before it
unfoldable pub numeral_of : ℤ → Bytes
numeral_of (pos n) = digits_to columns n []
numeral_of (negsuc n) = minus ∷ digits_to columns (n + 1) []

-- the six columns of a number that they hold
unfoldable pub field_of : ℤ → Bytes
field_of z = replicate (columns - length (numeral_of z)) space ++ numeral_of z
