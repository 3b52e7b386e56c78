-- The definitions at small cases, computed.
use Rattle.ls_drill.proofs.Vocabulary.{◌++◌, ◌∷◌, ◌≡◌, None, Some, Summary, [], codes, false, generator_of, implied, is_chained, item_pairs, refl, related, summary_text, true, drawn_words}
use Rattle.std.specs.Fmt.{digits}

-- the words that the generator's authors print for 42 and 54
published_words : drawn_words 6 (generator_of 42) ≡ 0xa15c02b7 ∷ 0x7b47f409 ∷ 0xba1d3330 ∷ 0x83d2f293 ∷ 0xbfa4784b ∷ 0xcbed606e ∷ []
published_words = refl

four_items : item_pairs 4 ≡ (0, 1) ∷ (0, 2) ∷ (0, 3) ∷ (1, 2) ∷ (1, 3) ∷ (2, 3) ∷ []
four_items = refl

-- of these words the third alone is a multiple of 4
one_pair : related 4 42 ≡ (0, 3) ∷ []
unfolding related
one_pair = refl

implied_pair : implied 4 42 0 3 ≡ true
unfolding related is_chained
implied_pair = refl

not_back : implied 4 42 3 0 ≡ false
unfolding related is_chained
not_back = refl

chain : is_chained ((0, 1) ∷ (1, 3) ∷ (3, 4) ∷ []) 5 0 4 ≡ true
unfolding is_chained
chain = refl

no_chain : is_chained ((0, 1) ∷ (2, 3) ∷ []) 5 0 3 ≡ false
unfolding is_chained
no_chain = refl

abbrev four_drilled : Summary
four_drilled = record { n = 4; number = 42; asked = 10; asked_yes = 1; asked_no = 9; filled = 2; filled_yes = 0; filled_no = 2; base = 4; learning = true; states = Some 12 }

six_lines : summary_text four_drilled
    ≡ codes "drill 4 number 42\n" ++ codes "asked 10 yes 1 no 9\n" ++ codes "filled 2 yes 0 no 2\n" ++ codes "base 4\n" ++ codes "learning yes\n" ++ codes "states 12\n"
unfolding digits
six_lines = refl

many_states : summary_text (record four_drilled { learning = false; states = None })
    ≡ codes "drill 4 number 42\n" ++ codes "asked 10 yes 1 no 9\n" ++ codes "filled 2 yes 0 no 2\n" ++ codes "base 4\n" ++ codes "learning no\n" ++ codes "states over 65536\n"
unfolding digits
many_states = refl
