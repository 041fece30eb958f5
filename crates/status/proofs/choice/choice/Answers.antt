use Rattle.std.proofs.Common.{◌≡◌, ◌∙◌, sym, refl, ℕ, List, [], ◌∷◌, Bool, true, false, not, cond, Some, eqb, rules, tests}
use Rattle.std.specs.List.{find, list_all}
use Rattle.std.proofs.lemmas.Iterator.{YieldsList-from_range}
use Rattle.std.proofs.lemmas.Iterator.Adapters.{option_map_id}
use Rattle.std.proofs.lemmas.Iterator.Search.{find_from_yields_List}
use Rattle.words.specs.Word.{when◌then◌else◌}
use Rattle.words.proofs.Laws.{and_true}
use Rattle.rules.specs.Record.{commands, command_of}
use Rattle.rules.specs.Steps.{first_of, candidate, chosen}
use Rattle.status.proofs.choice.choice.Goals as goal

is_command : ℕ → Bool
is_command c = not (eqb c 0)

first_found : (test : ℕ → Bool) (cs : List ℕ) → list_all is_command cs ≡ true → find test cs ≡ command_of (first_of test cs)
unfolding first_of when◌then◌else◌ is_command
first_found test [] e = refl
first_found test (c ∷ cs) e = let l = and_true _ _ e in either (test c) l.0 (first_found test cs l.1)
  where
    either : (b : Bool) → is_command c ≡ true → find test cs ≡ command_of (first_of test cs) → cond b (Some c) (find test cs) ≡ command_of (when b then c else first_of test cs)
    either true l e = rw l
    either false l e = e

pub returns : goal.returns
unfolding chosen commands is_command
returns c =
    let test : ℕ → Bool = candidate c.args.s c.args.v c.args.word in
    sym (option_map_id c.find.result)
    ∙ find_from_yields_List test _ _ _ c.find.ensures.ran (YieldsList-from_range 1 8 7 refl refl) (λ x b q k. search (rules, tests))
    ∙ first_found test (1 ∷ 2 ∷ 3 ∷ 4 ∷ 5 ∷ 6 ∷ 7 ∷ []) refl
