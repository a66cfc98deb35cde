-- What a word is made of, and what it reads as.
use Rattle.std.proofs.Common.{◌≡◌, ℕ, zero, suc, ◌/◌, ◌%◌, ◌^◌, ◌<◌, true, Some, None, sym, ap, ◌∙◌, subst, arith}
use lib.Bits.{bit_xor, xor_assoc, xor_lt, xor_mod, xor_shr, xor_zero_r}
use Rattle.std.proofs.lemmas.Bool.{cond-true}
use Rattle.std.proofs.lemmas.Bool.Decides.{nat_tests}
use Rattle.coding.specs.Polynomial.{times, OnlyRemainder}
use Rattle.coding.specs.Remainder.{first, remainder_of}
use Rattle.coding.proofs.Division.{divides, divides_only}
use Rattle.coding.specs.Word.{inverted, check_of, word_of, checks, reading_of, last_bit_inverted}

-- a check has eight bits
check_below : (content : ℕ) → content < 2 ^ 20 → check_of content < 2 ^ 8
check_below content short = xor_lt 8 (remainder_of content 20) 0xff (divides content short 20 (omega arith)).0 (omega arith)

-- inverting the eight bits twice leaves them
inverted_twice : (byte : ℕ) → inverted (inverted byte) ≡ byte
inverted_twice byte = xor_assoc byte 0xff 0xff ∙ xor_zero_r byte

module _ (content : ℕ) (short : content < 2 ^ 20) where
  pub word_content : word_of content / 2 ^ 8 ≡ content
  word_content = let h = check_below content short in omega arith

  word_check : word_of content % 2 ^ 8 ≡ check_of content
  word_check = let h = check_below content short in omega arith

  pub word_checks : checks (word_of content) ≡ true
  word_checks =
      let h = check_below content short in
      let fit : word_of content % 2 ^ 8 ≡ check_of (word_of content / 2 ^ 8) = word_check ∙ ap check_of (sym word_content) in
      grind (arith, nat_tests)

  -- reading undoes making
  pub word_reads : reading_of (word_of content) ≡ Some content
  word_reads = cond-true (checks (word_of content)) (Some (word_of content / 2 ^ 8)) None word_checks ∙ ap Some word_content

  -- the check is the remainder of a division
  pub word_divides : (word : ℕ) → word ≡ word_of content → OnlyRemainder (times content (2 ^ 8)) (inverted (word % 2 ^ 8))
  word_divides word made =
      let whole : first 20 content ≡ content = omega arith in
      let is : inverted (word % 2 ^ 8) ≡ remainder_of content 20 = ap (λ w. inverted (w % 2 ^ 8)) made ∙ ap inverted word_check ∙ inverted_twice (remainder_of content 20) in
      subst (λ a. OnlyRemainder (times a (2 ^ 8)) (inverted (word % 2 ^ 8))) whole (divides_only content 20 _ short (omega arith) is)

-- what reads as good was made from that content
pub read_made : (number content : ℕ) → reading_of number ≡ Some content → number ≡ word_of content
read_made number content e =
    let is : number / 2 ^ 8 ≡ content = grind (arith, nat_tests) in
    let fit : number % 2 ^ 8 ≡ check_of (number / 2 ^ 8) = grind (arith, nat_tests) in
    let check : number % 2 ^ 8 ≡ check_of content = fit ∙ ap check_of is in
    omega arith

bit_differs : (b : ℕ) → b < 2 → b ≡ bit_xor b 1 → ⊥
bit_differs zero h e = omega arith
bit_differs (suc zero) h e = omega arith
bit_differs (suc (suc b)) h e = omega arith

-- inverting the last bit spoils
pub inverted_spoils : (number : ℕ) → checks number ≡ true → reading_of (last_bit_inverted number) ≡ None
inverted_spoils number t =
    let other = last_bit_inverted number in
    let same : other / 2 ^ 8 ≡ number / 2 ^ 8 = xor_shr number 1 8 ∙ xor_zero_r (number / 2 ^ 8) in
    let last : other % 2 ≡ bit_xor (number % 2) 1 = xor_mod number 1 1 in
    let fit : number % 2 ^ 8 ≡ check_of (number / 2 ^ 8) = grind (arith, nat_tests) in
    let unfit : other % 2 ^ 8 ≡ check_of (other / 2 ^ 8) → ⊥ =
    λ e. let alike : other % 2 ^ 8 ≡ number % 2 ^ 8 = e ∙ ap check_of same ∙ sym fit in bit_differs (number % 2) (omega arith) (omega arith) in
    grind (arith, nat_tests)
