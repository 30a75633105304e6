-- Serves as examples: texts that a reader of documents 01 and 02 would try, with the answers that
-- they give, as tables; `answers_are` and `agains_are` check all of it on the definitions, by
-- computation.
-- Assumes nothing.
use Rattle.std.specs.Prelude.{◌≡◌, refl, Bool, true, ◌&&◌, ℕ, eqb, ℤ, pos}
use mathlib.Core.List.{List, [], ◌∷◌, ◌++◌, map, flat_map}
use Prim.Native.Char.{code}
use Prim.Native.String.{String, [] as []ˢ, ◌∷◌ as ◌∷ˢ◌}
use Rattle.integers.specs.Lists.{all, any, first, tab, repeats}
use Rattle.integers.specs.Vector.{dots, eq_z, eq_v}
use Rattle.nest.specs.Nest.{to_ℕ, part, limits_of, time_of, dependences_of, boundaries_of, weights_of}
use Rattle.nest.specs.Nest.{padded, nest_of, empty_nest}
use Rattle.nest.specs.Points.{extent, point_count}
use Rattle.nest.specs.Refusals.{number, outside, crossed, out_of_span, backward, against, holds, first_met, or_else}
use Rattle.nest_text.specs.Fields.{Bytes, newline, space, blanks_of, all_digits, value_of, digits_of, signed_of}
use Rattle.nest_text.specs.Fields.{read_of, digits_to, numeral_of, field_of}
use Rattle.nest_text.specs.Text.{line, differ, last_of, lines_with, text_with, text_of}
use Rattle.nest_text.specs.Text.{is_line, numbers_of, are_lines, line_numbers, widths, shapes, fits, first_fitting}
use Rattle.nest_text.specs.Text.{is_headed, header_width_of, header_numbers, headed, header_of}
use Rattle.nest_text.specs.Text.{rest_of, is_shaped, body_numbers, boundaries_in, nest_from, body_of, read_refusal}
use Rattle.nest_text.specs.Text.{read_nest}

-- the bytes of a text
unfoldable pub bytes : String → Bytes
bytes []ˢ = []
bytes (c ∷ˢ s) = code c ∷ bytes s

-- each line with its byte 10
unfoldable pub lines : List String → Bytes
lines ts = flat_map (λ t. bytes t ++ (newline ∷ [])) ts

-- a text and the number that reading it answers
pub record Case : Type 0 where
  pub text : Bytes
  pub answer : ℕ

-- one loop, one dependence, with these lines of limits, of the time vector and of the weights
unfoldable pub one_loop : String → String → String → List String
one_loop limits time last = "     1     1     0" ∷ limits ∷ time ∷ "     1" ∷ last ∷ []

-- such a text, which is accepted
unfoldable pub plain : List String
plain = one_loop "     0     3" "     1" "     1     1"

-- without its last line
unfoldable pub unended : List String
unended = "     1     1     0" ∷ "     0     3" ∷ "     1" ∷ "     1" ∷ []

-- the sheet of document 01's listing, with this last line: two dependences
unfoldable pub two_dependences : String → List String
two_dependences last =
    "     2     2     1"
    ∷ "     0     1" ∷ "     0     2"
    ∷ "     1     1"
    ∷ "     0     1" ∷ "     1     0"
    ∷ last
    ∷ []

-- the texts and their answers
unfoldable pub cases : List Case
cases =
    record { text = lines plain; answer = 0 }
    -- document 01's own text
    ∷ record { text = lines (two_dependences "     1     2     3"); answer = 0 }
    -- nothing at all, and a first line that does not end
    ∷ record { text = []; answer = 1 }
    ∷ record { text = bytes "     1     1     0"; answer = 1 }
    -- line 1's form goes before 2, 3 and 4, and they go before the form of the other lines
    ∷ record { text = bytes "     9     9     9"; answer = 1 }
    ∷ record { text = lines ("     9     9     9" ∷ []); answer = 2 }
    ∷ record { text = lines ("     1     9     9" ∷ []); answer = 3 }
    ∷ record { text = lines ("     1     1     9" ∷ []); answer = 4 }
    ∷ record { text = lines ("     1     1     0" ∷ []); answer = 1 }
    -- a line too many, a byte too many, no last byte 10
    ∷ record { text = lines (plain ++ ("     1" ∷ [])); answer = 1 }
    ∷ record { text = lines plain ++ (space ∷ []); answer = 1 }
    ∷ record { text = lines unended ++ bytes "     1     1"; answer = 1 }
    -- CR before byte 10, a tab, a plus sign, a blank field, a digit before a space
    ∷ record { text = lines (one_loop "     0     3" "     1\r" "     1     1"); answer = 1 }
    ∷ record { text = lines (one_loop "     0     3" "\t    1" "     1     1"); answer = 1 }
    ∷ record { text = lines (one_loop "     0    +3" "     1" "     1     1"); answer = 1 }
    ∷ record { text = lines (one_loop "           3" "     1" "     1     1"); answer = 1 }
    ∷ record { text = lines (one_loop "     0    3 " "     1" "     1     1"); answer = 1 }
    -- minus zero, a leading zero, a minus alone
    ∷ record { text = lines (one_loop "    -0     3" "     1" "     1     1"); answer = 1 }
    ∷ record { text = lines (one_loop "     0    03" "     1" "     1     1"); answer = 1 }
    ∷ record { text = lines (one_loop "     -     3" "     1" "     1     1"); answer = 1 }
    -- six digits and -99999 are in columns: their spans are another matter
    ∷ record { text = lines (one_loop "     0999999" "     1" "     1     1"); answer = 5 }
    ∷ record { text = lines (one_loop "-99999     3" "     1" "     1     1"); answer = 5 }
    -- the other lines' form goes before 5, and 5 before 7
    ∷ record { text = lines (one_loop "     3     0" "     x" "     1     1"); answer = 1 }
    ∷ record { text = lines (one_loop "     3     0" "    17" "     1     1"); answer = 5 }
    ∷ record { text = lines (one_loop "     0     3" "    17" "     1     1"); answer = 7 }
    ∷ record { text = lines (one_loop "     0     3" "    -1" "     1     1"); answer = 11 }
    ∷ record { text = lines (one_loop "     0     3" "     0" "     1     1"); answer = 11 }
    ∷ record { text = lines (one_loop "     0     3" "     1" " 65536     1"); answer = 13 }
    ∷ record { text = lines (one_loop "     0     3" "     1" "     1   256"); answer = 13 }
    -- the last line of two dependences has three fields or four; that of one dependence has two
    ∷ record { text = lines (two_dependences "     1     2"); answer = 1 }
    ∷ record { text = lines (two_dependences "     1     9     2     3"); answer = 0 }
    ∷ record { text = lines (two_dependences "     1     1     2     3"); answer = 0 }
    ∷ record { text = lines (two_dependences "     1     9     2     3     4"); answer = 1 }
    ∷ record { text = lines (one_loop "     0     3" "     1" "     1     1     1"); answer = 1 }
    -- 13 in the last boundary value alone, in one for all, in the last weight
    ∷ record { text = lines (two_dependences "     1 65536     2     3"); answer = 13 }
    ∷ record { text = lines (two_dependences " 65536     2     3"); answer = 13 }
    ∷ record { text = lines (two_dependences "     1     9     2   256"); answer = 13 }
    ∷ []

-- each text is answered so
pub answers_are : all (λ c. eqb (read_refusal c.text) c.answer) cases ≡ true
unfolding all any first tab repeats dots eq_z eq_v to_ℕ part limits_of time_of dependences_of boundaries_of weights_of
    padded
    nest_of empty_nest extent point_count number outside crossed out_of_span backward against holds first_met or_else
    blanks_of
    all_digits value_of digits_of signed_of read_of is_line numbers_of are_lines line_numbers widths shapes fits
    first_fitting is_headed header_width_of header_numbers headed header_of rest_of is_shaped body_numbers boundaries_in
    nest_from body_of read_refusal bytes lines one_loop plain unended two_dependences cases flat_map
answers_are = refl

-- ---- read and written again

-- a last line of two dependences, the boundary values that it says, and the last line that is
-- written for them
pub record Again : Type 0 where
  pub last : String
  pub values : List ℤ
  pub written : String

-- one value for all, one for each, and one for each where they are equal
unfoldable pub agains : List Again
agains =
    record { last = "     1     2     3"; values = pos 1 ∷ pos 1 ∷ []; written = "     1     2     3" }
    ∷ record { last = "     1     9     2     3"; values = pos 1 ∷ pos 9 ∷ []; written = "     1     9     2     3" }
    ∷ record { last = "     1     1     2     3"; values = pos 1 ∷ pos 1 ∷ []; written = "     1     2     3" }
    ∷ []

-- a text with that last line is read and written so
unfoldable pub is_again : Again → Bool
is_again a =
    let s = read_nest (lines (two_dependences a.last)) in
    eq_v (boundaries_of s) a.values && eq_v (map pos (text_of s)) (map pos (lines (two_dependences a.written)))

-- each of them
pub agains_are : all is_again agains ≡ true
unfolding all any first tab repeats dots eq_z eq_v to_ℕ part limits_of time_of dependences_of boundaries_of weights_of
    padded
    nest_of empty_nest extent point_count number outside crossed out_of_span backward against holds first_met or_else
    blanks_of
    all_digits value_of digits_of signed_of read_of is_line numbers_of are_lines line_numbers widths shapes fits
    first_fitting is_headed header_width_of header_numbers headed header_of rest_of is_shaped body_numbers boundaries_in
    nest_from body_of read_refusal read_nest digits_to numeral_of field_of line differ last_of lines_with text_with
    bytes lines
    two_dependences agains is_again flat_map
agains_are = refl
