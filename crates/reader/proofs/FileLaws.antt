-- The loop over the records: from the place that the loop has reached, the definition reads what it reads from the file's start; each
-- turn takes one record off the front. The loop lends a part of the file that runs to its end, so it is the rest of the file.
use Prim.Native.Nat.{ℕ, ◌+◌, ◌-◌, ◌<◌, ◌≤◌}
use mathlib.Core.Path.{◌≡◌, sym, ap, subst, ◌∙◌}
use mathlib.Core.List.{List}
use native.Mathlib.Omega.{arith}
use lib.ListN.{length, get_or, take, drop, length-drop}
use lib.Seq.{take_all}
use Rattle.reader.specs.declared.numbers.Number.{Number}
use Rattle.modelfile.specs.declared.Refusal.{Refusal}
use Rattle.modelfile.specs.declared.Fault.{Fault}
use Rattle.std.specs.Prelude.{Result, Ok, Err}
use Rattle.modelfile.specs.Ends.{last_centre, last_chain}
use Rattle.modelfile.specs.Model.{empty_model, slot}
use Rattle.modelfile.specs.Records.{more, body_length, read_record}
use Rattle.modelfile.specs.File.{refused, onward, read_from, read_file}
use Rattle.modelfile.specs.declared.Model.{Model}
use Rattle.modelfile.specs.declared.Stepped.{Stepped}
use Rattle.modelfile.proofs.StepLaws.{Within}
use Rattle.modelfile.proofs.SoundLaws.{Sound, sound_empty, sound_record}
use Rattle.modelfile.proofs.PlaceLaws.{next, record_inside, read_one, read_over}
use Rattle.reader.specs.Bytes.{Holds}
use Rattle.reader.specs.Said.{said, Room}
use Rattle.reader.specs.declared.records.Said.{Said}

pub record Reached (file : List ℕ) (at : ℕ) (m : Model) : Type 0 where
  pub inside : at ≤ length file
  pub sound : Sound m
  pub reads : read_from (drop at file) 0 at m ≡ read_file file

pub reached_start : (file : List ℕ) {m : Model} → m ≡ empty_model → Reached file 0 m
unfolding read_file
reached_start file e = record { inside = omega arith; sound = subst Sound (sym e) sound_empty; reads = ap (read_from file 0 0) e }

-- ---- the part that is lent

rest_part : (file : List ℕ) (at : ℕ) → take (length file - at) (drop at file) ≡ drop at file
rest_part file at = take_all (length file - at) (drop at file) (omega (arith, length-drop at file))

pub part_holds : (file : List ℕ) (at : ℕ) → at < length file → length file < 18446744073709551616 → Holds 1 (take (length file - at) (drop at file)) at
part_holds file at h f = rw rest_part (record { whole = omega (arith, length-drop at file); fits = omega (arith, length-drop at file) })

-- ---- where what a record says is noted

module _ (m : Model) {s : Result Said Refusal} where
  pub window_at : {w : ℕ} → s ≡ Ok (Said.Window w) → Room m s → m.given < 8
  unfolding Room
  window_at e r = rw e at r

  pub load_at : {c : Number 16} {k : Number 8} {l : ℕ} → s ≡ Ok (Said.Load c k l) → Room m s → Within 1 last_centre c.n × Within 1 last_chain k.n
  unfolding Room
  load_at e r = rw e at r

  pub leaf_at : {c : Number 16} → s ≡ Ok (Said.Leaf c) → Room m s → Within 1 last_centre c.n × (m.count + m.trees ≤ 30)
  unfolding Room
  leaf_at e r = rw e at r

  pub join_at : s ≡ Ok Said.Join → Room m s → (m.count ≤ 30) × (2 ≤ m.trees)
  unfolding Room
  join_at e r = rw e at r

pub slot_low : {c k i : ℕ} → Within 1 last_centre c × Within 1 last_chain k → i ≡ slot c k → i < 128
slot_low (a, b) e = omega (arith, a.low, a.high, b.low, b.high)

-- ---- one turn

module _ (file : List ℕ) (at : ℕ) {m : Model} (v : Reached file at m) where
  module _ (h : at < length file) (s : Result Said Refusal) (lent : said m at s ≡ read_record (take (length file - at) (drop at file)) at m) where
    -- a record that says more leaves the model n
    pub reached_next : {n : Model} {kind b : ℕ} → said m at s ≡ more n → kind ≡ get_or file at 0 → b ≡ body_length kind → Reached file (at + 1 + b) n
    reached_next {n} {b = b} g i j =
        let e : more n ≡ read_record (drop at file) at m = sym g ∙ (rw rest_part at lent) in
        let f : next file at ≡ at + 1 + b = omega (arith, j ∙ ap body_length i) in
        rw (← f)
        (record {
          inside = record_inside file at m h (sym (ap (λ (r : Stepped). r.step) e));
          sound = subst (λ (r : Stepped). Sound r.model) (sym e) (sound_record (drop at file) at m v.sound);
          reads = subst (λ (r : Stepped). onward r.step r.model (read_from (drop (next file at) file) 0 (next file at) r.model) ≡ read_file file) (sym e) (sym (read_one file at m h) ∙ v.reads);
        })

    ended : (r : Stepped) → said m at s ≡ r → onward r.step r.model (read_from (drop (next file at) file) 0 (next file at) r.model) ≡ read_file file
    ended r g = subst (λ (r : Stepped). onward r.step r.model (read_from (drop (next file at) file) 0 (next file at) r.model) ≡ read_file file) (sym (rw rest_part at lent) ∙ g) (sym (read_one file at m h) ∙ v.reads)

    pub reached_last : s ≡ Ok Said.Last → record { verdict = Ok tt; model = m } ≡ read_file file
    unfolding said
    reached_last f = ended _ (ap (said m at) f)

    pub reached_refused : {r : Refusal} → s ≡ Err r → record { verdict = Err r; model = m } ≡ read_file file
    unfolding said
    reached_refused f = ended _ (ap (said m at) f)

  -- the file's end, met where a record is due
  pub reached_over : length file ≤ at → refused Fault.Incomplete at m ≡ read_file file
  reached_over h = sym (read_over file at m h) ∙ v.reads
