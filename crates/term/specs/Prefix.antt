-- Terms and bags as bytes, in prefix form. Bytes that are none stand for the constant 0 or the empty bag.
use Rattle.std.specs.Prelude.{ℕ, zero, suc, Bool, cond, ◌&&◌, List, length, drop, ◌==◌, nat_lt, slice_index}
use Rattle.term.specs.declared.signature.Arguments.{Arguments}
use Rattle.term.specs.declared.signature.Arguments.TheVariants as arguments
use Rattle.term.specs.Meaning.{Sig, Term, variable, constant, apply, equal, negate, both, Bag, empty, single, sum, flexible, operation}

-- the bytes begin with the code k, and more than n follow it
abbrev pub begins : ℕ → ℕ → List ℕ → Bool
begins k n bs = nat_lt n (length bs) && slice_index bs 0 == k

-- a term and the bytes that follow it
abbrev pub Read : Type 0
Read = Term × List ℕ

-- stands where no term does
abbrev pub missing : Term
missing = constant 0 0

-- one part, read by p
abbrev pub one : (List ℕ → Read) → (Term → Term) → List ℕ → Read
one p f bs = (f (p bs).0, (p bs).1)

-- two parts, one after the other
abbrev pub two : (List ℕ → Read) → (Term → Term → Term) → List ℕ → Read
two p f bs = (f (p bs).0 (p (p bs).1).0, (p (p bs).1).1)

-- an operation with as many parts as it has arguments, of more than two with two
abbrev pub applied : (List ℕ → Read) → ℕ → Arguments → List ℕ → Read
applied p k arguments.None bs = (apply k missing missing, bs)
applied p k (arguments.One a) bs = one p (λ x. apply k x missing) bs
applied p k (arguments.Two a b) bs = two p (apply k) bs
applied p k (arguments.More a b) bs = two p (apply k) bs

-- a term whose parts are read by p
abbrev pub front : Sig → (List ℕ → Read) → List ℕ → Read
front s p bs =
    cond (begins 0x20 1 bs) (variable (slice_index bs 1), drop 2 bs)
    (cond (begins 0x21 2 bs) (constant (slice_index bs 1) (slice_index bs 2), drop 3 bs)
    (cond (begins 0x22 1 bs) (applied p (slice_index bs 1) (operation s (slice_index bs 1)).arguments (drop 2 bs))
    (cond (begins 0x23 1 bs) (two p (equal (slice_index bs 1)) (drop 2 bs))
    (cond (begins 0x24 0 bs) (one p negate (drop 1 bs))
    (cond (begins 0x25 0 bs) (two p both (drop 1 bs)) (missing, bs))))))

-- the term of at most the given depth that bytes begin with, and what follows it
unfoldable pub term_at : Sig → ℕ → List ℕ → Read
term_at s zero bs = (missing, bs)
term_at s (suc d) bs = front s (term_at s d) bs

abbrev pub ReadBag : Type 0
ReadBag = Bag × List ℕ

-- a bag whose terms are read by p and whose bags are read by q
abbrev pub bag_front : (List ℕ → Read) → (List ℕ → ReadBag) → List ℕ → ReadBag
bag_front p q bs =
    cond (begins 0x30 0 bs) (empty, drop 1 bs)
    (cond (begins 0x31 0 bs) (single (p (drop 1 bs)).0, (p (drop 1 bs)).1)
    (cond (begins 0x32 0 bs) (sum (q (drop 1 bs)).0 (q (q (drop 1 bs)).1).0, (q (q (drop 1 bs)).1).1)
    (cond (begins 0x33 1 bs) (flexible (slice_index bs 1) (p (drop 2 bs)).0, (p (drop 2 bs)).1) (empty, bs))))

-- the bag of at most the given depth that bytes begin with, and what follows it
unfoldable pub bag_at : Sig → ℕ → List ℕ → ReadBag
bag_at s zero bs = (empty, bs)
bag_at s (suc d) bs = bag_front (term_at s d) (bag_at s d) bs
