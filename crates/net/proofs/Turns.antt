-- The commands of a file, one after the other.
use Rattle.std.proofs.Common.{◌≡◌, ℕ, zero, suc, ◌+◌, ◌<◌, ◌≤◌, Bool, cond, List, length, Ok, Err, sym, ap, ◌∙◌, arith, le-leb}
use Rattle.term.specs.declared.fault.Fault.TheVariants as fail
use Rattle.term.specs.declared.fault.FileFault.{FileFault}
use Rattle.term.specs.declared.fault.Stage.TheVariants as stage
use Rattle.format.specs.declared.section.Section.{Section}
use Rattle.format.specs.declared.section.Section.TheVariants as section
use Rattle.net.specs.declared.reader.ReadError.{ReadError}
use Rattle.net.specs.declared.reader.ReadError.TheVariants.{File, Memory}
use Rattle.net.specs.Reading.{Fills, Step, Steps, Told, after, commands, empty, last, next, step, stop, told}
use Rattle.net.specs.System.{SystemNet, longest_file}

-- from here on, with enough turns, the rest of the file tells v
abbrev pub TellsOn : ℕ → Section → SystemNet → List ℕ → Told → Type 0
TellsOn ends s n bs v = (k : ℕ) × (length bs < k) × (commands k ends s n bs ≡ v)

-- before the first command
pub begins : (file : List ℕ) (n : SystemNet) → length file ≤ longest_file → n ≡ empty → TellsOn (length file) section.Sorts n file (told file)
begins file n h e =
    let k = length file + 1 in (
      k,
      omega arith,
      ap (λ (z : SystemNet). commands k (length file) section.Sorts z file) e
          ∙ sym (ap (λ (b : Bool). cond b (commands k (length file) section.Sorts empty file) (Err (record { fault = fail.TooLong; place = longest_file; stage = stage.File }))) (le-leb (length file) longest_file h)),
    )

module _ (ends : ℕ) (s : Section) (n : SystemNet) (bs : List ℕ) (v : Told) where
  -- one turn
  turn : (x : Step) → step s n bs ends ≡ x → TellsOn ends s n bs v → (k : ℕ) × (length bs ≤ k) × (after (commands k ends) x ≡ v)
  unfolding commands
  turn x e (zero, h, g) = let z : ⊥ = omega arith in absurd z
  turn x e (suc k, h, g) = (k, omega arith, sym (ap (after (commands k ends)) e) ∙ g)

  pub goes : (t : Section) (m : SystemNet) (r : List ℕ) → step s n bs ends ≡ next t m r → length r < length bs → TellsOn ends s n bs v → TellsOn ends t m r v
  goes t m r e l h = let x = turn (next t m r) e h in (x.0, omega (arith, x.1), x.2)

  pub ends_well : (m : SystemNet) → step s n bs ends ≡ last m → TellsOn ends s n bs v → v ≡ Ok m
  ends_well m e h = sym (turn (last m) e h).2

  pub breaks : (f : FileFault) → step s n bs ends ≡ stop f → TellsOn ends s n bs v → v ≡ Err f
  breaks f e h = sym (turn (stop f) e h).2

  pub fails : (e : ReadError) (file : List ℕ) (t : Section) (m : SystemNet) (r : List ℕ) → v ≡ told file → Steps (Err e) t m r (step s n bs ends) → TellsOn ends s n bs v → Fills (Err e) file m
  fails (File f) file t m r is e h = sym is ∙ breaks f e h
  fails Memory file t m r is e h = tt
