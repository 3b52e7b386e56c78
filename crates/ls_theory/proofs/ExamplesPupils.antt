-- Examples: two pupils assessed on the six states, reply by reply.
use Rattle.ls_theory.proofs.Vocabulary.{◌∷◌, ◌≡◌, List, None, Some, ℕ, [], asked, class_results, false, map, mass, outcome, refl, reply_fault, take, total, true, weight}
use Rattle.ls_theory.specs.declared.ratio.Ratio.{Ratio}
use Rattle.ls_theory.specs.declared.reply.Reply.{Reply}
use Rattle.ls_theory.specs.declared.reason.Reason.TheVariants.{Share, Budget}
use Rattle.ls_theory.specs.declared.reply_fault.ReplyFault.TheVariants as fault
use Rattle.ls_theory.specs.declared.reply_fault.ReplyFault.TheVariants.{WrongItem}
use Rattle.ls_theory.specs.declared.asked.Asked.{Asked}
use Rattle.ls_theory.specs.declared.asked.Asked.TheVariants.{Item, Over}
use Rattle.ls_theory.specs.Settings.{Settings, odds, standard, with_all, with_limits, are_settings, heavy_after}
use Rattle.ls_theory.proofs.Small.{words, ∅, a, ac, six_states}

abbrev right : ℕ → Reply
right q = record { q = q; right = true }

abbrev wrong : ℕ → Reply
wrong q = record { q = q; right = false }

-- a line of a pupil's table: the weights of the states, the total, the masses of the items, what is asked
record Line : Type 0 where
  weights : List ℕ
  total : ℕ
  masses : List ℕ
  next : Asked

abbrev line_by : Settings → List Reply → Line
line_by s rs = record { weights = map (weight s.ratios rs) six_states; total = total s.ratios rs six_states; masses = map (mass s.ratios rs six_states) (0 ∷ 1 ∷ 2 ∷ []); next = asked s six_states rs }

abbrev line : List Reply → Line
line = line_by (standard 3)

abbrev ann : List Reply
ann = right 2 ∷ right 0 ∷ wrong 1 ∷ right 2 ∷ right 0 ∷ wrong 1 ∷ []

abbrev bob : List Reply
bob = wrong 2 ∷ wrong 0 ∷ wrong 0 ∷ wrong 2 ∷ []

begins : line [] ≡ record { weights = 1 ∷ 1 ∷ 1 ∷ 1 ∷ 1 ∷ 1 ∷ []; total = 6; masses = 4 ∷ 2 ∷ 3 ∷ []; next = Item 2 }
unfolding words
begins = refl

ann_1 : line (take 1 ann) ≡ record { weights = 8 ∷ 1 ∷ 8 ∷ 1 ∷ 8 ∷ 1 ∷ []; total = 27; masses = 18 ∷ 9 ∷ 24 ∷ []; next = Item 0 }
unfolding words
ann_1 = refl

ann_2 : line (take 2 ann) ≡ record { weights = 64 ∷ 8 ∷ 64 ∷ 8 ∷ 8 ∷ 1 ∷ []; total = 153; masses = 144 ∷ 72 ∷ 136 ∷ []; next = Item 1 }
unfolding words
ann_2 = refl

ann_3 : line (take 3 ann) ≡ record { weights = 64 ∷ 8 ∷ 512 ∷ 64 ∷ 64 ∷ 8 ∷ []; total = 720; masses = 648 ∷ 72 ∷ 640 ∷ []; next = Item 2 }
unfolding words
ann_3 = refl

ann_4 : line (take 4 ann) ≡ record { weights = 512 ∷ 8 ∷ 4096 ∷ 64 ∷ 512 ∷ 8 ∷ []; total = 5200; masses = 4680 ∷ 520 ∷ 5120 ∷ []; next = Item 0 }
unfolding words
ann_4 = refl

ann_5 : line (take 5 ann) ≡ record { weights = 4096 ∷ 64 ∷ 32768 ∷ 512 ∷ 512 ∷ 8 ∷ []; total = 37960; masses = 37440 ∷ 4160 ∷ 37376 ∷ []; next = Item 1 }
unfolding words
ann_5 = refl

ann_over : asked (standard 3) six_states ann ≡ Over Share
unfolding words
ann_over = refl

ann_outcome : outcome (standard 3) six_states ann ≡ record { state = ac; weight = 262144; total = 274560; replies = 6 }
unfolding words
ann_outcome = refl

bob_1 : line (take 1 bob) ≡ record { weights = 1 ∷ 8 ∷ 1 ∷ 8 ∷ 1 ∷ 8 ∷ []; total = 27; masses = 18 ∷ 9 ∷ 3 ∷ []; next = Item 0 }
unfolding words
bob_1 = refl

bob_2 : line (take 2 bob) ≡ record { weights = 1 ∷ 8 ∷ 1 ∷ 8 ∷ 8 ∷ 64 ∷ []; total = 90; masses = 18 ∷ 9 ∷ 10 ∷ []; next = Item 0 }
unfolding words
bob_2 = refl

bob_3 : line (take 3 bob) ≡ record { weights = 1 ∷ 8 ∷ 1 ∷ 8 ∷ 64 ∷ 512 ∷ []; total = 594; masses = 18 ∷ 9 ∷ 66 ∷ []; next = Item 2 }
unfolding words
bob_3 = refl

bob_outcome : outcome (standard 3) six_states bob ≡ record { state = ∅; weight = 4096; total = 4290; replies = 4 }
unfolding words
bob_outcome = refl

-- with one reply allowed, the budget ends it
budget : asked (with_limits (standard 3) 1 90) six_states (take 1 ann) ≡ Over Budget
unfolding words
budget = refl

-- one item with odds 3: the leader has three quarters of the total
abbrev at_share : ℕ → Settings
at_share n = record { ratios = record { right = odds 3; wrong = odds 3 } ∷ []; budget = 30; share = n }

enough : asked (at_share 75) (a ∷ ∅ ∷ []) (right 0 ∷ []) ≡ Over Share
unfolding words
enough = refl

too_little : asked (at_share 76) (a ∷ ∅ ∷ []) (right 0 ∷ []) ≡ Item 0
unfolding words
too_little = refl

-- the class of both
class : class_results (standard 3) six_states (record { name = 97 ∷ []; right = ac } ∷ record { name = 98 ∷ []; right = ∅ } ∷ [])
    ≡ record { name = 97 ∷ []; replies = 6; reason = Share; state = ac } ∷ record { name = 98 ∷ []; replies = 4; reason = Share; state = ∅ } ∷ []
unfolding words
class = refl

-- ratios 3 to 2 for all: one reply, right on c
abbrev by_halves : Settings
by_halves = let r : Ratio = record { a = 3; b = 2 } in with_all (standard 3) (record { right = r; wrong = r })

ratio : line_by by_halves (right 2 ∷ []) ≡ record { weights = 3 ∷ 2 ∷ 3 ∷ 2 ∷ 3 ∷ 2 ∷ []; total = 15; masses = 10 ∷ 5 ∷ 9 ∷ []; next = Item 2 }
unfolding words
ratio = refl

-- which settings can be set: a ratio is above 1, and of small numbers
fit : map (are_settings 3) (standard 3 ∷ by_halves ∷ at_share 75 ∷ with_limits (standard 3) 41 90 ∷ with_limits (standard 3) 30 50 ∷ with_all (standard 3) (record { right = odds 65; wrong = odds 2 }) ∷ with_all (standard 3) (record { right = odds 2; wrong = record { a = 2; b = 2 } }) ∷ []) ≡ true ∷ true ∷ false ∷ false ∷ false ∷ false ∷ false ∷ []
fit = refl

-- six states stand 39 replies of odds 8, and not 40
light : heavy_after (with_limits (standard 3) 39 90) 6 ≡ None
unfolding heavy_after
light = refl

heavy : heavy_after (with_limits (standard 3) 40 90) 6 ≡ Some 40
unfolding heavy_after
heavy = refl

-- why replies are refused
refused : reply_fault (Item 2) 0 ∷ reply_fault (Item 2) 2 ∷ reply_fault (Over Share) 0 ∷ [] ≡ Some (WrongItem 2) ∷ None ∷ Some (fault.Over Share) ∷ []
refused = refl
