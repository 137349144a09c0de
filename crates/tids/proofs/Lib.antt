mod OwnLetters
