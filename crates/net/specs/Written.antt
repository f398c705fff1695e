-- Terms and bags written out in bytes, in prefix form.
use Rattle.std.specs.Prelude.{ℕ, List, [], ◌∷◌, ◌++◌}
use Rattle.term.specs.declared.signature.Arguments.{Arguments}
use Rattle.term.specs.declared.signature.Arguments.TheVariants as arguments
use Rattle.term.specs.Meaning.{Sig, Term, variable, constant, apply, equal, negate, both, Bag, empty, single, sum, flexible, operation}

-- the arguments that there are, one after the other; of more than two, the first two
abbrev pub argument_bytes : Arguments → List ℕ → List ℕ → List ℕ
argument_bytes arguments.None a b = []
argument_bytes (arguments.One x) a b = a
argument_bytes (arguments.Two x y) a b = a ++ b
argument_bytes (arguments.More x y) a b = a ++ b

-- a term: its code, its numbers, and its parts
abbrev pub term_bytes : Sig → Term → List ℕ
term_bytes s (variable v) = 0x20 ∷ v ∷ []
term_bytes s (constant sort e) = 0x21 ∷ sort ∷ e ∷ []
term_bytes s (apply k a b) = 0x22 ∷ k ∷ argument_bytes (operation s k).arguments (term_bytes s a) (term_bytes s b)
term_bytes s (equal sort a b) = 0x23 ∷ sort ∷ (term_bytes s a ++ term_bytes s b)
term_bytes s (negate a) = 0x24 ∷ term_bytes s a
term_bytes s (both a b) = 0x25 ∷ (term_bytes s a ++ term_bytes s b)

-- a bag, in the same way
abbrev pub bag_bytes : Sig → Bag → List ℕ
bag_bytes s empty = 0x30 ∷ []
bag_bytes s (single t) = 0x31 ∷ term_bytes s t
bag_bytes s (sum a b) = 0x32 ∷ (bag_bytes s a ++ bag_bytes s b)
bag_bytes s (flexible k t) = 0x33 ∷ k ∷ term_bytes s t
