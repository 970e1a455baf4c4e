-- The command line is one of those whose matches `clap` states.
use Rattle.std.proofs.Common.{List, [], ◌∷◌, None, true, ◌≡◌, ◌∙◌, Option, ap, refl}
use Rattle.clap.specs.Words.{App, Text, HasMatchesOf, IsAmong, Kinds, fault_of, is_simple, is_simple_and_free, subcommand_of, subcommand_rows_of}
use Rattle.clap.specs.declared.error.kind.ErrorKind.{ErrorKind}
use Rattle.clap.specs.declared.parser.matches.ArgMatches.{ArgMatches}
use Rattle.clap.proofs.OnLiterals.{clap_on_literals}
use Rattle.mc_command.specs.Line.{matches_on, without_fault}
use Rattle.mc_command.specs.Usage.{line_app}

pub is_free : is_simple_and_free line_app ≡ true
unfolding clap_on_literals
is_free = refl

is_plain : is_simple line_app ≡ true
unfolding clap_on_literals
is_plain = refl

pub has_matches : (a : App) (line : List Text) (m : ArgMatches) → a ≡ line_app → HasMatchesOf a line m → fault_of a line ≡ [] → subcommand_rows_of m ≡ matches_on line
has_matches a line m e h none =
    let fine : fault_of line_app line ≡ [] = rw e at none in
    let rows = (h (ap is_simple e ∙ is_plain)).1 in
    let same : subcommand_rows_of m ≡ subcommand_of line_app line = rw e at rows in
    rw (fine, same) refl

none_of : {A : Type 0} (k : Kinds) (x : ErrorKind) (o : Option A) → IsAmong x k → None ≡ without_fault k o
none_of [] x o h = absurd h
none_of (k ∷ ks) x o h = refl

pub has_none : (a : App) (line : List Text) (x : ErrorKind) → a ≡ line_app → IsAmong x (fault_of a line) → None ≡ matches_on line
has_none a line x e h =
    let among : IsAmong x (fault_of line_app line) = rw e at h in
    none_of (fault_of line_app line) x (subcommand_of line_app line) among
