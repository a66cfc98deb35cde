-- What stands at each place of a block.
use Rattle.std.proofs.Common.{◌≡◌, ℕ, ◌+◌, ◌-◌, ◌/◌, ◌^◌, ◌<◌, ◌≤◌, true, List, [], ◌∷◌, ◌++◌, map, length, get_or, Some, None, sym, refl, ap, ◌∙◌, arith, length-append}
use Rattle.std.specs.List.{range_with_len}
use Rattle.std.proofs.lemmas.List.FromFn.{get_or-map-range_with_len, length-map-range_with_len}
use Rattle.std.proofs.lemmas.List.{ext_get_or, get_or_append_left, get_or-append_right, get_or_at, get_or-map, length-map}
use Rattle.std.proofs.lemmas.Bool.{and_from, eq-eqb}
use Rattle.std.proofs.lemmas.Bool.Decides.{nat_tests}
use Rattle.coding.specs.Word.{word_of, checks, reading_of}
use Rattle.reserved.specs.Reserved.{syu_of}
use Rattle.blocks.specs.Block.{Opened, contents_of, all_check, is_acu, sound}

-- ---- the twelve contents of a block, by place

module _ (b : Opened) (acu : ℕ) (few : length b.contents ≤ 11) where
  abbrev syus : List ℕ
  syus = map (syu_of b.codes.pattern) (range_with_len (length b.contents + 1) (11 - length b.contents))

  syus_length : length syus ≡ 11 - length b.contents
  syus_length = length-map-range_with_len (syu_of b.codes.pattern) (length b.contents + 1) (11 - length b.contents)

  pub twelve : length (contents_of b acu) ≡ 12
  twelve = length-append b.contents (syus ++ acu ∷ []) ∙ (let e = length-append syus (acu ∷ []) in let f = syus_length in omega arith)

  pub at_put : (i : ℕ) → i < length b.contents → get_or (contents_of b acu) i 0 ≡ get_or b.contents i 0
  at_put i h = get_or_append_left b.contents (syus ++ acu ∷ []) 0 i h

  pub at_left : (i : ℕ) → length b.contents ≤ i → i < 11 → get_or (contents_of b acu) i 0 ≡ syu_of b.codes.pattern (i + 1)
  at_left i h k =
      let inside : i - length b.contents < length syus = (let f = syus_length in omega arith) in
      get_or-append_right b.contents (syus ++ acu ∷ []) (length b.contents) i 0 refl h
      ∙ get_or_append_left syus (acu ∷ []) 0 (i - length b.contents) inside
      ∙ get_or-map-range_with_len (syu_of b.codes.pattern) (length b.contents + 1) (11 - length b.contents) (i - length b.contents) (i + 1) 0 (omega arith) (omega arith)

  pub at_last : (i : ℕ) → i ≡ 11 → get_or (contents_of b acu) i 0 ≡ acu
  at_last i e =
      get_or-append_right b.contents (syus ++ acu ∷ []) (length b.contents) i 0 refl (omega arith)
      ∙ get_or_at syus acu [] 0 (i - length b.contents) (let f = syus_length in omega arith)

-- ---- words made of contents, place by place

module _ (words contents : List ℕ) (long : length words ≡ length contents) where
  pub words_made : ((i : ℕ) → i < length contents → get_or words i 0 ≡ word_of (get_or contents i 0)) → words ≡ map word_of contents
  words_made each =
      ext_get_or 0 words (map word_of contents) (long ∙ sym (length-map contents word_of))
      (λ i h. let k : i < length contents = omega arith in each i k ∙ sym (get_or-map word_of contents i 0 0 k))

  pub words_read : ((i : ℕ) → i < length contents → reading_of (get_or words i 0) ≡ Some (get_or contents i 0)) → map reading_of words ≡ map Some contents
  words_read each =
      ext_get_or None (map reading_of words) (map Some contents) (length-map words reading_of ∙ long ∙ sym (length-map contents Some))
      (λ i h.
      let n = length-map words reading_of in
      let k : i < length contents = omega arith in
      get_or-map reading_of words i 0 None (omega arith) ∙ each i k ∙ sym (get_or-map Some contents i 0 None k))

-- ---- a number that reads as good checks, and is made of the content that is read

good_checks : (number content : ℕ) → reading_of number ≡ Some content → checks number ≡ true
good_checks number content e = grind (arith, nat_tests)

good_carries : (number content : ℕ) → reading_of number ≡ Some content → number / 2 ^ 8 ≡ content
good_carries number content e = grind (arith, nat_tests)

read_check : (words contents : List ℕ) → map reading_of words ≡ map Some contents → all_check words ≡ true
read_check [] contents e = refl
read_check (w ∷ ws) [] e = absurd (cc)
read_check (w ∷ ws) (c ∷ cs) e = let e' : reading_of w ≡ Some c = cc in let es : map reading_of ws ≡ map Some cs = cc in and_from _ _ (good_checks w c e') (read_check ws cs es)

-- what is read of each place of a block shows that it is sound
pub reads_sound : (words : List ℕ) (b : Opened) (acu : ℕ) → length b.contents ≤ 11 → is_acu acu ≡ true → map reading_of words ≡ map Some (contents_of b acu) → sound words ≡ true
reads_sound words b acu few is e =
    let contents = contents_of b acu in
    let long : length words ≡ 12 = sym (length-map words reading_of) ∙ ap length e ∙ length-map contents Some ∙ twelve b acu few in
    let last : reading_of (get_or words 11 0) ≡ Some acu =
    sym (get_or-map reading_of words 11 0 None (omega arith)) ∙ ap (λ rs. get_or rs 11 None) e
    ∙ get_or-map Some contents 11 0 None (let n = twelve b acu few in omega arith) ∙ ap Some (at_last b acu few 11 refl) in
    and_from _ _ (and_from _ _ (eq-eqb _ _ long) (read_check words contents e)) (ap is_acu (good_carries (get_or words 11 0) acu last) ∙ is)
