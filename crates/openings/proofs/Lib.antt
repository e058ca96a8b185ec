mod Twos
