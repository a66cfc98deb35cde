-- Blocks: eleven units, and then an acknowledgement unit (ACU).
use Rattle.std.specs.Prelude.{ℕ, ◌+◌, ◌-◌, ◌/◌, ◌^◌, Bool, cond, ◌&&◌, List, [], ◌∷◌, ◌++◌, map, length, Ok, Err, Result, ◌==◌, nat_le, nat_lt, slice_index}
use Rattle.std.specs.List.{list_all, range_with_len}
use Rattle.coding.specs.Bits.{bits}
use Rattle.coding.specs.Word.{word_of, checks}
use Rattle.reserved.specs.Reserved.{acceptable, syu_of}
use Rattle.reserved.specs.declared.numbers.CodeNumbers.{CodeNumbers}
use Rattle.words.specs.declared.refusals.Refusal.{Refusal}
use Rattle.words.specs.declared.refusals.Refusal.TheVariants.{OutOfRange, BlockFull}

-- An open block: the codes that it was begun with, and the contents that were put into it, the first one first.
pub record Opened : Type 0 where
  pub codes : CodeNumbers
  pub contents : List ℕ

-- What holds of every open block: its codes are acceptable, and it has eleven contents at most, each of twenty bits.
abbrev pub proper : Opened → Bool
proper b = acceptable b.codes && nat_le (length b.contents) 11 && list_all (λ content. nat_lt content (2 ^ 20)) b.contents

-- Putting one content more into an open block: the block then, or the refusal. A content from 2^20 on is out of its range, and
-- then a block with eleven contents is full.
abbrev pub putting : ℕ → Opened → Result Opened Refusal
putting content b =
    cond (nat_lt content (2 ^ 20))
    (cond (nat_lt (length b.contents) 11) (Ok (record { codes = b.codes; contents = b.contents ++ content ∷ [] })) (Err BlockFull))
    (Err OutOfRange)

-- What a call that may alter a block answered: the block as it then is, or the error.
abbrev pub leaving : {E : Type 0} → Opened → Result (Unit {0}) E → Result Opened E
leaving after (Ok done) = Ok after
leaving after (Err e) = Err e

-- The twelve contents of a block: those that were put, in order, the SYU of each place that is left of the eleven, and the
-- content of the ACU.
abbrev pub contents_of : Opened → ℕ → List ℕ
contents_of b acu =
    b.contents ++ (map (syu_of b.codes.pattern) (range_with_len (length b.contents + 1) (11 - length b.contents)) ++ acu ∷ [])

-- Its twelve words.
abbrev pub block_of : Opened → ℕ → List ℕ
block_of b acu = map word_of (contents_of b acu)

-- Each of the numbers checks.
abbrev pub all_check : List ℕ → Bool
all_check ns = list_all checks ns

-- A content is an ACU's where its first three bits are 011.
abbrev pub is_acu : ℕ → Bool
is_acu content = bits 1 3 content == 0b011

-- What holds of the words of every closed block: there are twelve, each checks, and the last carries an ACU.
abbrev pub sound : List ℕ → Bool
sound ws = length ws == 12 && all_check ws && is_acu (slice_index ws 11 / 2 ^ 8)
