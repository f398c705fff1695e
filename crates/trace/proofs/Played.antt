-- Where a replay stops, and what it has done there.
use Rattle.std.proofs.Common.{◌≡◌, ℕ, ◌+◌, ◌<◌, ◌≤◌, List, [], ◌∷◌, ◌++◌, length, take, Some, Ok, Err, Option, Result, sym, refl, ap, subst, append_assoc, append-nil, arith, length-append, length-take}
use Rattle.std.specs.Result.{result_err}
use Rattle.lent.specs.declared.list.LentList.{LentList}
use Rattle.term.specs.declared.fault.Fault.{Fault}
use Rattle.term.specs.declared.fault.Fault.TheVariants as fail
use Rattle.net.specs.declared.firing.Firing.{Firing}
use Rattle.net.specs.System.{SystemNet}
use Rattle.bench.specs.Calls.{Begun, Lent, Leads, marking}
use Rattle.net.specs.Runs.{Reachable}
use Rattle.bench.proofs.Walks.{reachable}
use Rattle.trace.specs.Carrying.{Does, Done, Fitting, Refuses, TurnedDown}
use Rattle.trace.specs.Moves.{Move, longest_trace, written}
use Rattle.trace.specs.Stops.{cell_of}
use Rattle.trace.specs.Reading.{Close, SaysOnly, close, end, fault, first_of, move, says, too_long}
use Rattle.trace.specs.Recorded.{HoldsTrace}
use Rattle.trace.specs.Replaying.{Played, Plays, Ran, RecordingCalled, ReplayCalled, Stops, lends, replayed}
use Rattle.trace.specs.declared.recording.EndedRecording.{EndedRecording}
use Rattle.trace.specs.declared.replays.Replayed.{Replayed}
use Rattle.trace.specs.declared.replays.Stop.{Stop}
use Rattle.trace.proofs.Carried.{done_more}
use Rattle.trace.proofs.Prefixes.{counted, one_more, says_after, says_only, says_written}

-- a replay that goes on: of the bytes, some commands are carried out and counted, from the memory l to k, and the rest
-- is left
pub record Going (n : SystemNet) (bs rest : List ℕ) (l k : Lent) (count : ℕ) : Type 0 where
  pub moves : List Move
  pub begins : bs ≡ written moves ++ rest
  pub counted : count ≡ length moves
  pub done : Done n l moves k
  pub short : length bs ≤ longest_trace

module _ (n : SystemNet) (bs rest : List ℕ) (l k : Lent) (count : ℕ) (g : Going n bs rest l k count) where
  -- so few commands that the count is exact
  pub few : count ≤ longest_trace
  few = let e = g.counted in let s = g.short in let b = ap length g.begins in omega (arith, counted g.moves rest, e, s, b)

  -- one command more
  pub going_on : (m : Move) (next : List ℕ) (x : Lent) (more : ℕ) → first_of rest (length bs) ≡ move m next → Does n m k x → Fitting x → more ≡ count + 1 → Going n bs next l x more
  going_on m next x more f d fits e = record {
    moves = g.moves ++ m ∷ [];
    begins = one_more bs g.moves rest (length bs) m next g.begins f;
    counted = let c = g.counted in let z = length-append g.moves (m ∷ []) in omega (arith, c, z, e);
    done = done_more n g.moves m l k x g.done d fits;
    short = g.short;
  }

  -- nothing is left
  pub ran_closed : (c : Close) (stop : Option Stop) → first_of rest (length bs) ≡ close c → Stops n k [] c stop → Ran n bs l k (record { carried = count; stop = stop })
  ran_closed c stop f s = record {
    said = g.moves;
    close = c;
    says = says_only (says rest g.short g.begins f);
    plays = record { moves = g.moves; left = []; whole = sym (append-nil g.moves); done = g.done; carried = g.counted; stops = s };
  }

  -- the bench turns the next command down, and the memory is as it was
  pub ran_down : (m : Move) (next : List ℕ) (s : Stop) (x : Lent) → first_of rest (length bs) ≡ move m next → s.place ≡ cell_of s.fault → Refuses n m k s.fault → x ≡ k → Ran n bs l x (record { carried = count; stop = Some s })
  ran_down m next s x f q h same =
      let t : TurnedDown n m k s = record { refuses = h; place = q } in
      let a = says_after bs (g.moves ++ m ∷ []) next g.short (one_more bs g.moves rest (length bs) m next g.begins f) in
      subst (λ (y : Lent). Ran n bs l y (record { carried = count; stop = Some s })) (sym same)
      record {
        said = (g.moves ++ m ∷ []) ++ a.0;
        close = a.1;
        says = says_only a.2;
        plays = record { moves = g.moves; left = m ∷ a.0; whole = append_assoc g.moves (m ∷ []) a.0; done = g.done; carried = g.counted; stops = t };
      }

-- of a trace that is too long nothing is carried out
pub ran_long : (n : SystemNet) (bs : List ℕ) (l : Lent) (k : ℕ) (s : Stop) → longest_trace < length bs → k ≡ 0 → s.fault ≡ fail.TooLong → s.place ≡ longest_trace → Ran n bs l l (record { carried = k; stop = Some s })
ran_long n bs l k s h e f p = record {
  said = [];
  close = fault fail.TooLong longest_trace;
  says = says_only (too_long h);
  plays = record { moves = []; left = []; whole = refl; done = refl; carried = e; stops = (f, p) };
}

-- the answer of a replay from its count and its end
answered : (k : ℕ) (e : Result (Unit {0}) Stop) (o : Option Stop) → o ≡ result_err e → replayed k e ≡ record { carried = k; stop = o }
answered k (Ok u) o h = ap (λ (x : Option Stop). record { carried = k; stop = x }) (sym h)
answered k (Err s) o h = ap (λ (x : Option Stop). record { carried = k; stop = x }) (sym h)

-- the whole of a replay
pub played : (n : SystemNet) (bs : List ℕ) (l x k : Lent) (count : ℕ) (e : Result (Unit {0}) Stop) (o : Option Stop) → Begun n l x → Ran n bs x k (replayed count e) → Leads n k → o ≡ result_err e → Played n bs l k (record { carried = count; stop = o })
played n bs l x k count e o h p s i = record {
  start = x;
  begun = h;
  ran = subst (λ (y : Replayed). Ran n bs x k y) (answered count e o i) p;
  leads = s;
  reachable = run;
  bounded = λ c b u. u (marking k) run;
}
  where
    run : Reachable n (marking k)
    run = reachable n k.trail (marking k) s

-- what a trace says is what was replayed
replays : (n : SystemNet) (bs : List ℕ) (ms : List Move) (c : Close) (l k : Lent) (r : Replayed) → Ran n bs l k r → SaysOnly bs ms c → Plays n ms c l k r
replays n bs ms c l k r h s =
    let e = s.only h.said h.close h.says.this in
    subst (λ (x : List Move). Plays n x c l k r) e.0 (subst (λ (x : Close). Plays n h.said x l k r) e.1 h.plays)

-- the commands recorded are those replayed
pub recording_called : (n : SystemNet) (mem : List ℕ) (e : EndedRecording) (bs cells : List ℕ) (trail : LentList Firing) (cells' : List ℕ) (trail' : LentList Firing) (r : Result Replayed Fault) → length mem ≡ e.room → bs ≡ take e.len mem
    → ReplayCalled n bs cells trail cells' trail' r → RecordingCalled n mem e cells trail cells' trail' r
recording_called n mem e bs cells trail cells' trail' (Ok r) l b h =
    let k = lends cells' trail' in
    let p : Played n (take e.len mem) (lends cells trail) k r = subst (λ (x : List ℕ). Played n x (lends cells trail) k r) b h.1 in
    let short : length (take e.len mem) ≤ longest_trace = simp length-take (omega arith) in
    let plays : (ms : List Move) → HoldsTrace mem e ms → Plays n ms end p.start k r = λ ms m. replays n (take e.len mem) ms end p.start k r p.ran (says_written (take e.len mem) ms short m) in
    (l, h.0, record { played = p; commands = plays })
recording_called n mem e bs cells trail cells' trail' (Err f) l b h = ((λ _ c. h.0 c), h.1, h.2, h.3)
