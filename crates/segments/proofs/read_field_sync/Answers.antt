use Rattle.std.proofs.Common.{◌≡◌, take, drop, length, ◌≢◌, ◌∙◌, rules}
use Rattle.segments.specs.Pn.{pn511, pn63}
use Rattle.segments.specs.Report.{differing}
use Rattle.segments.proofs.Sequences.{digits511, digits63, entry511, entry63, counted}
use Rattle.segments.proofs.read_field_sync.Goals as goal

pub returns-in_default-as_mut_array-clause-answer :
    goal.returns-in_default-as_mut_array-clause-answer
returns-in_default-as_mut_array-clause-answer c =
    let n : length c.args.sync.now ≢ 15 = search rules in
    let l : length c.args.segment.now ≡ 832 = search rules in
    search rules

pub returns-clause-answer : goal.returns-clause-answer
returns-clause-answer c =
    let i : c.differing.result ≡ differing pn63 c.args.segment.now 578 63 = c.differing.ensures.count ∙ counted digits63 pn63 63 entry63 c.args.segment.now 578 (take 63 (drop 578 c.in-Some.segment.now)) (search rules) (search rules) in
    let w : c.differing-2.result ≡ differing pn511 c.args.segment.now 4 511 = c.differing-2.ensures.count ∙ counted digits511 pn511 511 entry511 c.args.segment.now 4 (take 511 (drop 4 c.in-Some.segment.now)) (search rules) (search rules) in
    search rules
