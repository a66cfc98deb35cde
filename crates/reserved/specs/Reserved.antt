-- Reserved contents: the three control signals, and whatever begins with the synchronization pattern.
use Rattle.std.specs.Prelude.{ℕ, ◌+◌, ◌*◌, ◌^◌, Bool, not, ◌&&◌, ◌||◌, ◌==◌, nat_lt}
use Rattle.coding.specs.Bits.{bits}
use Rattle.reserved.specs.declared.numbers.CodeNumbers.{CodeNumbers}

-- A content begins with the pattern where its first sixteen bits are the pattern.
abbrev pub begins_with : ℕ → ℕ → Bool
begins_with pattern content = bits 1 16 content == pattern

-- Each content has at most twenty bits, and the pattern at most sixteen.
abbrev pub narrow : CodeNumbers → Bool
narrow s = nat_lt s.changeover (2 ^ 20) && nat_lt s.load_transfer (2 ^ 20) && nat_lt s.acknowledgement (2 ^ 20) && nat_lt s.pattern (2 ^ 16)

-- No two of the three contents are equal, and none begins with the pattern.
abbrev pub apart : CodeNumbers → Bool
apart s =
    not (s.changeover == s.load_transfer) && not (s.load_transfer == s.acknowledgement) && not (s.acknowledgement == s.changeover)
    && not (begins_with s.pattern s.changeover) && not (begins_with s.pattern s.load_transfer) && not (begins_with s.pattern s.acknowledgement)

-- The codes that are accepted.
abbrev pub acceptable : CodeNumbers → Bool
acceptable s = narrow s && apart s

-- The contents that are reserved.
abbrev pub reserved : CodeNumbers → ℕ → Bool
reserved s content =
    (content == s.changeover) || content == s.load_transfer || content == s.acknowledgement || begins_with s.pattern content

-- The synchronization unit (SYU) of a place: the pattern, and then the place in four bits.
abbrev pub syu_of : ℕ → ℕ → ℕ
syu_of pattern place = pattern * 2 ^ 4 + place
