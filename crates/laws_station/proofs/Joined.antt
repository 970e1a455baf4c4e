-- The record that `merge` writes of two parts is that of the whole.
use Rattle.std.proofs.Common.{◌≡◌, ◌∙◌, ◌++◌, ◌≤◌, ℕ, List, [], Some, Ok, refl, sym, ap, subst}
use Rattle.mc_limits.specs.Limits.{most_words}
use Rattle.mc_command.specs.Command as command
use Rattle.mc_core.specs.Laws.{WordsFollowFromPairs}
use Rattle.mc_grammar.specs.Laws.{TreeIsNoLonger}
use Rattle.mc_port.specs.Store.{Files}
use Rattle.mc_record.specs.Kept.{Kept}
use Rattle.mc_record.specs.Lines.{record_lines}
use Rattle.mc_tests.specs.File.{tests_file}
use Rattle.mc_typed.specs.Plans.{Plan}
use Rattle.station_replies.specs.Reply.{Reply}
use Rattle.mc_station.specs.Causes.{RecordIs}
use Rattle.mc_station.specs.Source.{Accepted}
use Rattle.mc_station.specs.Tests.{words_needed}
use Rattle.mc_station.specs.commands.Merge.{IsJoined}
use Rattle.mc_station.specs.commands.Record.{IsRecordOf}
use Rattle.mc_station.proofs.Both.{merged_is_of_both}
use Rattle.mc_station.proofs.Joining.{same_kept}
use Rattle.laws_station.specs.Texts.{IsOfFiles}
use Rattle.laws_station.specs.Asking.{IsKept, runs}
use Rattle.laws_station.specs.Joined.{HaveParts, MergeIsRecord}
use Rattle.laws_station.proofs.Alike.{AreTestsOf, of_files, same_accepted, same_plans, same_record, tests_in}
use Rattle.laws_station.proofs.Analysed.{IsWritten, is_written, kept_of, ready_for, record_is, written_alike}
use Rattle.laws_station.proofs.Files.{AreKept}
use Rattle.laws_station.proofs.Sound.{IsReady}

-- one record of one source and its tests
one_kept : WordsFollowFromPairs → (accepted : Accepted) (plans : List Plan) (a b : Kept) → IsRecordOf [] accepted plans a → IsRecordOf [] accepted plans b → a ≡ b
one_kept law accepted plans a b p q =
    same_kept law a b (p.digest ∙ sym q.digest) (p.names ∙ sym q.names) (p.states ∙ sym q.states) (p.shape ∙ sym q.shape) p.words q.words
    (λ bit test. (λ h. (q.pairs bit test).1 ((p.pairs bit test).0 h), λ h. (p.pairs bit test).1 ((q.pairs bit test).0 h)))

-- the record of this name is that of these tests
the_record : (files : Files) (a : Accepted) (plans : List Plan) (is_ready : IsReady a) (are : AreKept plans) (small : words_needed a plans ≤ most_words) (t : Reply) (w : IsWritten [] a plans t) (name : List ℕ) (found : Kept)
    → IsKept files name t → RecordIs (Some files) name a found → found ≡ w.kept
the_record files a plans is_ready are small t w name found held is =
    let (bytes, holds, judges) = record_is files [] a plans is_ready are small t w name held in
    same_record files name a found w.kept bytes holds judges is

module _ (files : Files) (a : Accepted) where
  -- the tests of the whole are those of both parts
  whole_plans : (left right both : List ℕ) (fuel : ℕ) (ps qs ws : List Plan) → HaveParts files left right both → AreTestsOf files left fuel a ps → AreTestsOf files right fuel a qs → AreTestsOf files both fuel a ws → ws ≡ ps ++ qs
  whole_plans left right both fuel ps qs ws parts on_left on_right on_both =
      let one : tests_file a.program fuel parts.one ≡ Ok ps = tests_in files left fuel a ps parts.one parts.one_is on_left in
      let other : tests_file a.program fuel parts.other ≡ Ok qs = tests_in files right fuel a qs parts.other parts.other_is on_right in
      same_plans files both fuel a ws (ps ++ qs) on_both (parts.whole, parts.whole_is, parts.parts a.program fuel ps qs one other)

module _ (no_longer : TreeIsNoLonger) (law : WordsFollowFromPairs) (files : Files) (source left right both first second : List ℕ) (fuel workers others more : ℕ) (s t m w : Reply)
    (parts : HaveParts files left right both) (held_left : IsKept files first s) (held_right : IsKept files second t) where
  abbrev record_of_run : (tests : List ℕ) (n : ℕ) → command.Action
  record_of_run tests n = command.run (record { tests = tests; workers = n; fuel = fuel; task = command.on_matrix command.recorded })

  abbrev OfFiles : command.Command → Reply → Type 0
  OfFiles given r = IsOfFiles [] (Some files) (Some given) r

  from_all : OfFiles (runs source left workers fuel command.recorded) s → OfFiles (runs source right others fuel command.recorded) t → OfFiles (command.on_source source (command.merge first second)) m
      → OfFiles (runs source both more fuel command.recorded) w → m.out ≡ w.out
  from_all (a, source_a, (ps, js, are_left, records_left)) (b, source_b, (qs, ks, are_right, records_right)) (c, source_c, (k, l, z, (k_is, l_is), joined, m_is)) (d, source_d, (ws, ls, are_both, records_both)) =
      -- one source
      let on_left : command.Action = record_of_run left workers in
      let b_is : b ≡ a = same_accepted files source (record_of_run right others) on_left b a refl refl source_b source_a in
      let c_is : c ≡ a = same_accepted files source (command.merge first second) on_left c a refl refl source_c source_a in
      let d_is : d ≡ a = same_accepted files source (record_of_run both more) on_left d a refl refl source_d source_a in
      let tests_right : AreTestsOf files right fuel a qs = subst (λ (x : Accepted). AreTestsOf files right fuel x qs) b_is are_right.tests in
      let tests_both : AreTestsOf files both fuel a ws = subst (λ (x : Accepted). AreTestsOf files both fuel x ws) d_is are_both.tests in
      let is_ready : IsReady a = ready_for no_longer files source on_left a refl source_a in
      -- what was written
      let on_one : IsWritten [] a ps s = is_written [] a ps s records_left in
      let on_other : IsWritten [] a qs t = written_alike files [] source right fuel on_left (record_of_run right others) a b qs qs t refl refl source_a source_b tests_right are_right.tests records_right in
      let on_all : IsWritten [] a ws w = written_alike files [] source both fuel on_left (record_of_run both more) a d ws ws w refl refl source_a source_d tests_both are_both.tests records_both in
      -- what was read
      let small_right : words_needed a qs ≤ most_words = subst (λ (x : Accepted). words_needed x qs ≤ most_words) b_is are_right.allowed in
      let k_read : k ≡ on_one.kept = the_record files a ps is_ready (kept_of files left fuel a ps are_left.tests) are_left.allowed s on_one first k held_left (subst (λ (x : Accepted). RecordIs (Some files) first x k) c_is k_is) in
      let l_read : l ≡ on_other.kept = the_record files a qs is_ready (kept_of files right fuel a qs tests_right) small_right t on_other second l held_right (subst (λ (x : Accepted). RecordIs (Some files) second x l) c_is l_is) in
      let join : IsJoined on_one.kept on_other.kept z = subst (λ (x : Kept). IsJoined on_one.kept x z) l_read (subst (λ (x : Kept). IsJoined x l z) k_read joined) in
      let of_z : IsRecordOf [] a (ps ++ qs) z = merged_is_of_both a ps qs on_one.kept on_other.kept z on_one.of on_other.of join in
      let plans : ws ≡ ps ++ qs = whole_plans files a left right both fuel ps qs ws parts are_left.tests tests_right tests_both in
      let of_w : IsRecordOf [] a (ps ++ qs) on_all.kept = subst (λ (x : List Plan). IsRecordOf [] a x on_all.kept) plans on_all.of in
      let same : z ≡ on_all.kept = one_kept law a (ps ++ qs) z on_all.kept of_z of_w in
      ap (λ (x : Reply). x.out) m_is ∙ ap record_lines same ∙ sym on_all.lines

pub merge_is_record : TreeIsNoLonger → WordsFollowFromPairs → MergeIsRecord
merge_is_record no_longer law files source left right both first second fuel workers others more on_left on_right merging on_both s t m w parts asks_left asks_right asks_merge asks_both writes_left held_left writes_right held_right writes_merge writes_both =
    from_all no_longer law files source left right both first second fuel workers others more s t m w parts held_left held_right
    (of_files files [] (runs source left workers fuel command.recorded) on_left s asks_left writes_left)
    (of_files files [] (runs source right others fuel command.recorded) on_right t asks_right writes_right)
    (of_files files [] (command.on_source source (command.merge first second)) merging m asks_merge writes_merge)
    (of_files files [] (runs source both more fuel command.recorded) on_both w asks_both writes_both)
