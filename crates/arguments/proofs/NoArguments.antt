-- What words give to a program that takes no arguments.
use Rattle.std.proofs.Common.{◌≡◌, ◌∙◌, ℕ, List, [], ◌∷◌, drop, refl, sym, ap, subst, codes, inl, inr, ⊎_elim, Result, Ok, Err, IfErr, IsErrAnd, false, ◌==◌}
use Rattle.clap.specs.Words.{IsAmong, Kinds, Text, built, fault_of, new_app}
use Rattle.clap.specs.Walk.{nothing_held}
use Rattle.clap.specs.Faults.{built_fault}
use Rattle.clap.specs.declared.error.kind.ErrorKind.{ErrorKind}
use Rattle.clap.specs.declared.error.kind.ErrorKind.TheVariants as kind
use Rattle.clap.proofs.OnLiterals.{clap_on_literals}
use Rattle.arguments.specs.Notice.{Tells, TellsFault, begins_with_hyphen, fault_told}
use Rattle.arguments.specs.declared.Notice.{Notice}

-- the faults of the words after the program's name
abbrev faults_after_name : Text → List Text → Kinds
faults_after_name name words = built_fault (built (new_app name)) nothing_held words

no_word : (name : Text) → faults_after_name name [] ≡ []
unfolding clap_on_literals
no_word name = refl

help_first : (name : Text) (rest : List Text)
    → faults_after_name name (codes "--help" ∷ rest) ≡ kind.DisplayHelp ∷ []
unfolding clap_on_literals
help_first name rest = refl

empty_word_first : (name : Text) (rest : List Text)
    → faults_after_name name ([] ∷ rest) ≡ kind.UnknownArgument ∷ []
unfolding clap_on_literals
empty_word_first name rest = refl

byte_first : (name : Text) (x : ℕ) (xs : Text) (rest : List Text) → (x == 45) ≡ false
    → faults_after_name name ((x ∷ xs) ∷ rest) ≡ kind.UnknownArgument ∷ []
unfolding clap_on_literals
byte_first name x xs rest e = rw e (rw e refl)

stranger_first : (name word : Text) (rest : List Text) → begins_with_hyphen word ≡ false
    → faults_after_name name (word ∷ rest) ≡ kind.UnknownArgument ∷ []
stranger_first name [] rest e = empty_word_first name rest
stranger_first name (x ∷ xs) rest e = byte_first name x xs rest e

-- without a fault a notice tells only that memory lacks
told_none : {T : Type 0} (r : Result T Notice) (kinds : Kinds) → kinds ≡ []
    → TellsFault kinds r → IfErr r (λ n. fault_told n ≡ kind.OutOfMemory)
told_none (Ok v) kinds none told = tt {0}
told_none (Err n) kinds none told =
    ⊎_elim (λ m. m) (λ among. absurd (subst (IsAmong (fault_told n)) none among)) told

cons_not_empty : (k : ErrorKind) (ks : Kinds) → (k ∷ ks) ≡ [] → ⊥
cons_not_empty k ks e = cc

-- with one fault there is a notice, which tells of that
told_one : {T : Type 0} (k : ErrorKind) (r : Result T Notice) (kinds : Kinds) → kinds ≡ k ∷ []
    → TellsFault kinds r → IsErrAnd r (Tells k)
told_one k (Ok v) kinds one none = cons_not_empty k [] (sym one ∙ none)
told_one k (Err n) kinds one told =
    ⊎_elim (λ m. inl m)
    (λ among. ⊎_elim (λ e. inr e) (λ none. absurd none) (subst (IsAmong (fault_told n)) one among)) told

-- the same by the words of a program that takes no arguments
module _ {T : Type 0} (name : Text) (words : List Text) (r : Result T Notice)
    (told : TellsFault (fault_of (new_app name) words) r) where
  pub told_of_no_word : drop 1 words ≡ [] → IfErr r (λ n. fault_told n ≡ kind.OutOfMemory)
  told_of_no_word none = told_none r _ (ap (faults_after_name name) none ∙ no_word name) told

  pub told_of_help : (rest : List Text) → drop 1 words ≡ codes "--help" ∷ rest
      → IsErrAnd r (Tells kind.DisplayHelp)
  told_of_help rest e =
      told_one _ r _ (ap (faults_after_name name) e ∙ help_first name rest) told

  pub told_of_stranger : (word : Text) (rest : List Text) → drop 1 words ≡ word ∷ rest
      → begins_with_hyphen word ≡ false → IsErrAnd r (Tells kind.UnknownArgument)
  told_of_stranger word rest e hyphen =
      told_one _ r _ (ap (faults_after_name name) e ∙ stranger_first name word rest hyphen) told
