-- Worked rows by computation.
use Rattle.std.proofs.Common.{inl, inr, refl}
use Rattle.plain_site.specs.RowsOfClients.{ReadersFork, WritersFork, ReadsAreOld, WantingIsSentAgain, WeakerIsSentAfter, CommitsAreFound, FollowersStayBelow}
use Rattle.plain_site.specs.RowsOfClients.{SidesAreJoined}

pub readers-fork : ReadersFork
readers-fork = record {
  limits = refl;
  own = refl;
  opens = refl;
  answered = (
    refl,
    inl refl,
    (refl, inl refl, (refl, inl refl, (refl, inl refl, (refl, inl refl, (refl, inl refl, (refl, inl refl, (refl, inl refl, (refl, inl refl, tt)))))))),
  );
}

pub writers-fork : WritersFork
writers-fork = record {
  limits = refl;
  own = refl;
  opens = refl;
  answered = (
    refl,
    inl refl,
    (
      refl,
      inl refl,
      (
        refl,
        inl refl,
        (refl, inl refl, (refl, inl refl, (refl, inl refl, (refl, inl refl, (refl, inl refl, (refl, inl refl, (refl, inl refl, tt))))))),
      ),
    ),
  );
}

pub reads-are-old : ReadsAreOld
reads-are-old = record {
  limits = refl;
  own = refl;
  opens = refl;
  answered = (
    refl,
    inl refl,
    (
      refl,
      inl refl,
      (
        refl,
        inl refl,
        (refl, inl refl, (refl, inl refl, (refl, inl refl, (refl, inl refl, (refl, inl refl, (refl, inl refl, (refl, inl refl, tt))))))),
      ),
    ),
  );
}

pub wanting-is-sent-again : WantingIsSentAgain
wanting-is-sent-again = record {
  limits = refl;
  own = refl;
  opens = refl;
  answered = (
    refl,
    inl refl,
    (
      refl,
      inr refl,
      (
        refl,
        inl refl,
        (refl, inl refl, (refl, inl refl, (refl, inl refl, (refl, inl refl, (refl, inl refl, (refl, inl refl, (refl, inl refl, tt))))))),
      ),
    ),
  );
}

pub weaker-is-sent-after : WeakerIsSentAfter
weaker-is-sent-after = record {
  limits = refl;
  own = refl;
  opens = refl;
  answered = (
    refl,
    inl refl,
    (
      refl,
      inl refl,
      (
        refl,
        inl refl,
        (refl, inl refl, (refl, inl refl, (refl, inl refl, (refl, inl refl, (refl, inl refl, (refl, inl refl, (refl, inl refl, tt))))))),
      ),
    ),
  );
}

pub commits-are-found : CommitsAreFound
commits-are-found = record {
  limits = refl;
  own = refl;
  opens = refl;
  answered = (
    refl,
    inl refl,
    (
      refl,
      inl refl,
      (
        refl,
        inl refl,
        (
          refl,
          inl refl,
          (
            refl,
            inl refl,
            (
              refl,
              inl refl,
              (
                refl,
                inl refl,
                (
                  refl,
                  inl refl,
                  (refl, inl refl, (refl, inl refl, (refl, inl refl, (refl, inl refl, (refl, inl refl, (refl, inl refl, tt)))))),
                ),
              ),
            ),
          ),
        ),
      ),
    ),
  );
}

pub sides-are-joined : SidesAreJoined
sides-are-joined = record {
  limits = refl;
  own = refl;
  opens = refl;
  answered = (
    refl,
    inl refl,
    (
      refl,
      inl refl,
      (
        refl,
        inl refl,
        (
          refl,
          inl refl,
          (
            refl,
            inl refl,
            (
              refl,
              inl refl,
              (
                refl,
                inl refl,
                (
                  refl,
                  inl refl,
                  (refl, inl refl, (refl, inl refl, (refl, inl refl, (refl, inl refl, (refl, inl refl, tt))))),
                ),
              ),
            ),
          ),
        ),
      ),
    ),
  );
}

pub followers-stay-below : FollowersStayBelow
followers-stay-below = record {
  limits = refl;
  own = refl;
  opens = refl;
  answered =
      (refl, inl refl, (refl, inl refl, (refl, inl refl, (refl, inl refl, (refl, inl refl, tt)))));
}
