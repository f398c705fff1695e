-- Terms and bags over a signature, and what they mean in a mode.
use Rattle.std.specs.Prelude.{ℕ, ◌+◌, ◌*◌, Bool, true, cond, ◌&&◌, List, length, ◌==◌, nat_lt, slice_index, slice_index_or}
use Rattle.domain.specs.Meaning.{longest_row}
use Rattle.term.specs.declared.signature.Arguments.{Arguments}
use Rattle.term.specs.declared.signature.Arguments.TheVariants as arguments
use Rattle.term.specs.declared.signature.BagOperation.{BagOperation}
use Rattle.term.specs.declared.signature.Operation.{Operation}
use Rattle.term.specs.declared.signature.Signature.{Signature}

-- a term; an argument that an operation does not have stands as the constant 0 of sort 0
pub data Term : Type 0 where
  variable : ℕ → Term
  constant : ℕ → ℕ → Term
  apply : ℕ → Term → Term → Term
  equal : ℕ → Term → Term → Term
  negate : Term → Term
  both : Term → Term → Term

-- a bag: nothing, one token, a sum, or what a bag operation gives (a flexible arc)
pub data Bag : Type 0 where
  empty : Bag
  single : Term → Bag
  sum : Bag → Bag → Bag
  flexible : ℕ → Term → Bag

-- sorts by their sizes, operations and bag operations, with the tables of both
pub record Sig : Type 0 where
  pub sizes : List ℕ
  pub operations : List Operation
  pub bags : List BagOperation
  pub tables : List ℕ

-- what a signature in memory says
abbrev pub of : Signature → Sig
of s = record { sizes = s.sizes.now; operations = s.operations.now; bags = s.bags.now; tables = s.tables.now }

-- stands where an operation is missing
abbrev pub no_operation : Operation
no_operation = record { arguments = arguments.None; result = 0; table = 0 }

-- stands where a bag operation is missing
abbrev pub no_bag : BagOperation
no_bag = record { argument = 0; result = 0; table = 0 }

abbrev pub operation : Sig → ℕ → Operation
operation s k = slice_index_or s.operations k no_operation

abbrev pub bag_operation : Sig → ℕ → BagOperation
bag_operation s k = slice_index_or s.bags k no_bag

-- how many elements a sort has, 0 where it is not declared
abbrev pub size_of : List ℕ → ℕ → ℕ
size_of sizes sort = slice_index sizes sort

abbrev pub size : Sig → ℕ → ℕ
size s = size_of s.sizes

-- how many results stand together for one first argument; of more than two arguments, as if there were no second
abbrev pub width : Sig → Arguments → ℕ
width s arguments.None = 1
width s (arguments.One a) = 1
width s (arguments.Two a b) = size s b
width s (arguments.More a b) = 1

-- an operation's result, the first argument slowest
abbrev pub result : Sig → Operation → ℕ → ℕ → ℕ
result s o a b = slice_index s.tables (o.table + (a * width s o.arguments + b))

-- how often an element is in what a bag operation gives
abbrev pub copies_in : Sig → BagOperation → ℕ → ℕ → ℕ
copies_in s o a e = cond (nat_lt e (size s o.result)) (slice_index s.tables (o.table + (a * size s o.result + e))) 0

abbrev pub truth : Bool → ℕ
truth t = cond t 1 0

-- the element that a term means in a mode, which gives each variable an element
abbrev pub value : Sig → List ℕ → Term → ℕ
value s m (variable v) = slice_index m v
value s m (constant sort e) = e
value s m (apply k a b) = result s (operation s k) (value s m a) (value s m b)
value s m (equal sort a b) = truth (value s m a == value s m b)
value s m (negate a) = truth (value s m a == 0)
value s m (both a b) = truth (value s m a == 1 && value s m b == 1)

-- how often an element is in a bag
abbrev pub count : Sig → List ℕ → Bag → ℕ → ℕ
count s m empty e = 0
count s m (single t) e = truth (value s m t == e)
count s m (sum a b) e = count s m a e + count s m b e
count s m (flexible k t) e = copies_in s (bag_operation s k) (value s m t) e

-- the most tokens of one row of a table: counts below 256, for less than 256 elements
abbrev pub largest_row : ℕ
largest_row = 255 * longest_row

-- at most how many tokens a bag has
abbrev pub most_tokens : Bag → ℕ
most_tokens empty = 0
most_tokens (single t) = 1
most_tokens (sum a b) = most_tokens a + most_tokens b
most_tokens (flexible k t) = largest_row

-- the arguments that there are pass: the first by f, the second by g
abbrev pub each : (ℕ → Bool) → (ℕ → Bool) → Arguments → Bool
each f g arguments.None = true
each f g (arguments.One a) = f a
each f g (arguments.Two a b) = f a && g b
each f g (arguments.More a b) = f a && g b

-- a term is of a sort, over variables of the given sorts
abbrev pub sorted : Sig → List ℕ → ℕ → Term → Bool
sorted s vs w (variable v) = nat_lt v (length vs) && slice_index vs v == w
sorted s vs w (constant sort e) = sort == w && nat_lt e (size s sort)
sorted s vs w (apply k a b) =
    nat_lt k (length s.operations) && ((operation s k).result == w
    && each (λ v. sorted s vs v a) (λ v. sorted s vs v b) (operation s k).arguments)
sorted s vs w (equal sort a b) = w == 0 && (nat_lt sort (length s.sizes) && (sorted s vs sort a && sorted s vs sort b))
sorted s vs w (negate a) = w == 0 && sorted s vs 0 a
sorted s vs w (both a b) = w == 0 && (sorted s vs 0 a && sorted s vs 0 b)

-- a bag is over a sort
abbrev pub bag_sorted : Sig → List ℕ → ℕ → Bag → Bool
bag_sorted s vs w empty = true
bag_sorted s vs w (single t) = sorted s vs w t
bag_sorted s vs w (sum a b) = bag_sorted s vs w a && bag_sorted s vs w b
bag_sorted s vs w (flexible k t) = nat_lt k (length s.bags) && ((bag_operation s k).result == w && sorted s vs (bag_operation s k).argument t)
