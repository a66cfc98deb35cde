-- Words: twenty bits of content, and then eight bits of check. Bit 1 is the highest.
use Rattle.std.specs.Prelude.{ℕ, ◌+◌, ◌*◌, ◌/◌, ◌%◌, ◌^◌, Bool, cond, ◌&&◌, Some, None, Option, ◌==◌, bit_xor, nat_lt}
use Rattle.coding.specs.Remainder.{remainder_of}

-- The eight bits with each of them inverted.
abbrev pub inverted : ℕ → ℕ
inverted byte = bit_xor byte 0xff

-- The check of a content: the remainder of the content times X^8, inverted.
abbrev pub check_of : ℕ → ℕ
check_of content = inverted (remainder_of content 20)

-- The word of a content: bits 1 to 20 are the content, bits 21 to 28 its check.
abbrev pub word_of : ℕ → ℕ
word_of content = content * 2 ^ 8 + check_of content

-- A number checks when it is below 2^28 and its last eight bits fit its content.
abbrev pub checks : ℕ → Bool
checks number = nat_lt number (2 ^ 28) && number % 2 ^ 8 == check_of (number / 2 ^ 8)

-- What a number reads as: the content of one that checks, and nothing otherwise, where it is spoiled.
abbrev pub reading_of : ℕ → Option ℕ
reading_of number = cond (checks number) (Some (number / 2 ^ 8)) None

-- The number with its last bit, bit 28 of a word, inverted.
abbrev pub last_bit_inverted : ℕ → ℕ
last_bit_inverted number = bit_xor number 1
